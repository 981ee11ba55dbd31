use Rattle.std.proofs.Common.{arith}
use Rattle.mt_bwfread.proofs.Sizes.{scaled_small}
use Rattle.mt_bwfread.proofs.laws.scaled_small.Goals as goal

pub returns : goal.returns
returns c bits at = scaled_small bits at c.args.bytes.now (λ i. omega (arith, c.type_inv.bytes i))

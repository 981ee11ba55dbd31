use Rattle.std.proofs.Common.{arith}
use Rattle.mt_bwfread.proofs.Splitting.{splits, walked}
use Rattle.mt_bwfread.proofs.laws.walk_splits.Goals as goal

pub returns-clause-splits : goal.returns-clause-splits
returns-clause-splits c = (splits c.args.bytes.now (λ i. omega (arith, c.type_inv.bytes i))).0

pub returns-clause-to_the_end : goal.returns-clause-to_the_end
returns-clause-to_the_end c = (splits c.args.bytes.now (λ i. omega (arith, c.type_inv.bytes i))).1

pub returns-clause-only : goal.returns-clause-only
returns-clause-only c = λ cs rest split none. (walked c.args.bytes.now cs rest split none).0

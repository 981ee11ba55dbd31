use Rattle.std.proofs.Common.{refl, arith}
use Rattle.mt_digests.proofs.Fours.{spelled}
use Rattle.mt_digests.proofs.single.small_sigma0_of.Goals as goal

pub returns : goal.returns
returns c = rw (c.rotated.ensures, c.rotated-2.ensures, spelled c.args.words (omega arith)) refl

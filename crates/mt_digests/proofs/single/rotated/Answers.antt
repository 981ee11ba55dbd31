use Rattle.std.proofs.Common.{refl, arith}
use Rattle.mt_digests.proofs.Fours.{spelled}
use Rattle.mt_digests.proofs.single.rotated.Goals as goal

pub returns : goal.returns
returns c = rw (spelled c.args.words (omega arith)) refl

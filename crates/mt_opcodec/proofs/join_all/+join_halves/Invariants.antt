use Rattle.std.proofs.Common.{length}
use Rattle.mt_opcodec.proofs.join_all.+join_halves.Given as goal

abbrev pub decreases-join_halves : goal.decreases-join_halves
decreases-join_halves g l = length l.logs.items

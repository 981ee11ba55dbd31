use Rattle.std.proofs.Common.{length}
use Rattle.mt_opcodec.proofs.JoiningAll.{HasJoined}
use Rattle.mt_opcodec.proofs.join_all.join_from_left.Given as goal

abbrev pub invariant-loop-log : goal.invariant-loop-log
invariant-loop-log g l = HasJoined l.all l.rest.items l.fn.logs.items

abbrev pub decreases-loop-log : goal.decreases-loop-log
decreases-loop-log g l = length l.rest.items

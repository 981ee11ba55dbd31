use Rattle.mt_holdback.specs.Queue.{MetTo}
use Rattle.mt_holdback.proofs.queue.first_lack.Given as goal

abbrev pub invariant-loop-i : goal.invariant-loop-i
invariant-loop-i g l = MetTo g.T.Waits.rules l.released l.item l.i

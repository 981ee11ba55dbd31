use Rattle.std.proofs.Common.{◌-◌}
use Rattle.mt_op.proofs.Dots.{Narrows}
use Rattle.mt_op.proofs.find.find_op.Given as goal

abbrev pub invariant-loop-low : goal.invariant-loop-low
invariant-loop-low g l = Narrows l.ops l.dot l.low l.high

abbrev pub decreases-loop-low : goal.decreases-loop-low
decreases-loop-low g l = l.high - l.low

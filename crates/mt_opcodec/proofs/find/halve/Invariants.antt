use Rattle.std.proofs.Common.{◌-◌}
use Rattle.mt_opcodec.proofs.Narrowing.{Narrows}
use Rattle.mt_opcodec.proofs.find.halve.Given as goal

abbrev pub invariant-loop-low : goal.invariant-loop-low
invariant-loop-low g l = Narrows l.runs l.replica l.low l.high

abbrev pub decreases-loop-low : goal.decreases-loop-low
decreases-loop-low g l = l.high - l.low

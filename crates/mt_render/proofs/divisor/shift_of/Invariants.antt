use Rattle.std.proofs.Common.{◌-◌, ◌<◌, ◌≤◌, ◌^◌}
use Rattle.mt_render.proofs.divisor.shift_of.Given as goal

abbrev pub invariant-loop-shift : goal.invariant-loop-shift
invariant-loop-shift l = record {
  below : 2 ^ l.shift < l.den;
  to : l.shift ≤ 52;
}

abbrev pub decreases-loop-shift : goal.decreases-loop-shift
decreases-loop-shift l = 52 - l.shift

-- The parts below `low` end before the frame or at it, and those from `high` on behind it.
use Rattle.std.proofs.Common.{ℕ, ◌-◌, ◌<◌, ◌≤◌, length}
use Rattle.mt_render.specs.declared.part.Part.{Part}
use Rattle.mt_render.specs.Parts.{IsAt}
use Rattle.mt_render.proofs.lane.first_behind.Given as goal

abbrev pub invariant-loop-low : goal.invariant-loop-low
invariant-loop-low l = record {
  order : l.low ≤ l.high;
  within : l.high ≤ length l.parts;
  before : (k : ℕ) (p : Part) → k < l.low → IsAt l.parts k p → p.end ≤ l.frame;
  behind : (k : ℕ) (p : Part) → l.high ≤ k → IsAt l.parts k p → l.frame < p.end;
}

abbrev pub decreases-loop-low : goal.decreases-loop-low
decreases-loop-low l = l.high - l.low

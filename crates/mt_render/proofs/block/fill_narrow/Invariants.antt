-- The frames that are done are filled.
use Rattle.std.proofs.Common.{◌≡◌, ℕ, ◌+◌, ◌-◌, ◌*◌, ◌<◌, ◌≤◌}
use Rattle.mt_bwfread.specs.Fill.{at}
use Rattle.mt_render.specs.Mix.{output}
use Rattle.mt_render.specs.Parts.{lanes_give}
use Rattle.mt_render.proofs.block.fill_narrow.Given as goal

abbrev pub invariant-loop-done : goal.invariant-loop-done
invariant-loop-done g l = record {
  within : l.done ≤ l.frames;
  filled : (k c : ℕ) → k < l.done → c < l.format.channels → at l.samples (k * l.format.channels + c) ≡ output l.format.bits (lanes_give (l.first + k) c l.lanes);
}

abbrev pub decreases-loop-done : goal.decreases-loop-done
decreases-loop-done g l = l.frames - l.done

-- The samples of the channels below this one are there.
use Rattle.std.proofs.Common.{◌≡◌, ℕ, ◌+◌, ◌*◌, ◌<◌}
use Rattle.mt_bwfread.specs.Fill.{at}
use Rattle.mt_render.specs.Mix.{output}
use Rattle.mt_render.specs.Parts.{lanes_give}
use Rattle.mt_render.proofs.block.fill_frames.Given as goal

abbrev pub invariant-loop-channel : goal.invariant-loop-channel
invariant-loop-channel g l = (k c : ℕ) → k < l.frames → c < l.channel → at l.samples (k * l.fn.format.channels + c) ≡ output l.fn.format.bits (lanes_give (l.first + k) c l.lanes)

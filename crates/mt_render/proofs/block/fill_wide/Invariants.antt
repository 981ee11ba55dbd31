-- The samples below the index are filled.
use Rattle.std.proofs.Common.{◌≡◌, ℕ, ◌+◌, ◌/◌, ◌%◌, ◌<◌}
use Rattle.mt_bwfread.specs.Fill.{at}
use Rattle.mt_render.specs.Mix.{output}
use Rattle.mt_render.specs.Parts.{lanes_give}
use Rattle.mt_render.proofs.block.fill_wide.Given as goal

abbrev pub invariant-loop-index : goal.invariant-loop-index
invariant-loop-index g l = (k : ℕ) → k < l.index → at l.samples k ≡ output l.fn.format.bits (lanes_give (l.first + k / l.fn.format.channels) (k % l.fn.format.channels) l.lanes)

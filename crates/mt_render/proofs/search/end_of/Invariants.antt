-- The end of the clips below the index.
use Rattle.std.proofs.Common.{◌≡◌, ◌<◌, ◌^◌, take}
use Rattle.mt_render.specs.Mix.{clips_end}
use Rattle.mt_render.proofs.search.end_of.Given as goal

abbrev pub invariant-loop-clip : goal.invariant-loop-clip
invariant-loop-clip l = (l.end ≡ clips_end (take l.clip-index l.clips)) × (l.end < 2 ^ 33)

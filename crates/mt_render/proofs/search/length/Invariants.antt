-- The end of the tracks below the index.
use Rattle.std.proofs.Common.{◌≡◌, ◌<◌, ◌^◌, take}
use Rattle.mt_render.specs.Mix.{length_of}
use Rattle.mt_render.proofs.search.length.Given as goal

abbrev pub invariant-loop-track : goal.invariant-loop-track
invariant-loop-track g l = (l.length ≡ length_of (take l.track-index l.tracks)) × (l.length < 2 ^ 33)

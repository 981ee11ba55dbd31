-- The lanes of the tracks below the index are there.
use Rattle.std.proofs.Common.{◌≡◌, ℕ, take}
use Rattle.mt_render.specs.Mix.{mixed}
use Rattle.mt_render.specs.Parts.{lanes_give}
use Rattle.mt_render.proofs.mix.Mix.new.Given as goal

abbrev pub invariant-loop-track : goal.invariant-loop-track
invariant-loop-track g l = (f c : ℕ) → lanes_give f c l.lanes.items ≡ mixed l.catalogue f c (take l.track-index l.session.tracks)

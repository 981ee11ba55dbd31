-- The least of the tracks below the index.
use Rattle.std.proofs.Common.{take}
use Rattle.mt_render.specs.Refusals.{audible, LeastOf}
use Rattle.mt_render.proofs.search.least.Given as goal

abbrev pub invariant-loop-track : goal.invariant-loop-track
invariant-loop-track g l = LeastOf (audible (take l.track-index l.tracks)) (g.T.Test.fails l.test) l.least

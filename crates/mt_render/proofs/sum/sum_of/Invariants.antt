-- The lanes below the index are summed.
use Rattle.std.proofs.Common.{◌≡◌, ◌*◌, ◌≤◌, ◌^◌, take}
use Rattle.std.specs.Prelude.{unsigned_abs}
use Rattle.mt_render.specs.Parts.{lanes_give}
use Rattle.mt_render.proofs.sum.sum_of.Given as goal

abbrev pub invariant-loop-lane : goal.invariant-loop-lane
invariant-loop-lane g l = (l.sum ≡ lanes_give l.frame l.channel (take l.lane-index l.lanes)) × (unsigned_abs l.sum ≤ l.lane-index * 2 ^ 63)

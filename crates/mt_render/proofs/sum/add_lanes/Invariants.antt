-- The sums have gained what the lanes below the index give.
use Rattle.std.proofs.Common.{◌+◌, take}
use Rattle.mt_render.specs.Parts.{lanes_give}
use Rattle.mt_render.specs.Sums.{HaveGained}
use Rattle.mt_render.proofs.sum.add_lanes.Given as goal

abbrev pub invariant-loop-lane : goal.invariant-loop-lane
invariant-loop-lane g l = HaveGained l.initial.sums l.sums (λ k. lanes_give (l.first + k) l.channel (take l.lane-index l.lanes))

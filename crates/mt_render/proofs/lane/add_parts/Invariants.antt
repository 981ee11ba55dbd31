-- The sums have gained what the parts below the index give.
use Rattle.std.proofs.Common.{◌+◌, take}
use Rattle.mt_render.specs.Parts.{all_give}
use Rattle.mt_render.specs.Sums.{HaveGained}
use Rattle.mt_render.proofs.lane.add_parts.Given as goal

abbrev pub invariant-loop-index : goal.invariant-loop-index
invariant-loop-index l = HaveGained l.initial.sums l.sums (λ k. all_give (l.first + k) l.channel (take l.index l.parts))

use Rattle.std.proofs.Common.{◌≡◌, map, take}
use Rattle.std.specs.List.{filter}
use Rattle.mt_op.specs.declared.need.Role.TheVariants.{Place}
use Rattle.mt_op.specs.Needs.{fits}
use Rattle.mt_sessionview.proofs.places.place_ops.Given as goal

abbrev pub invariant-loop-op : goal.invariant-loop-op
invariant-loop-op g l = map (λ o. o.now) l.places.items ≡ filter (fits Place) (map (λ o. o.now) (take l.op-index l.ops))

use Rattle.std.proofs.Common.{◌≡◌, ◌++◌, map, drop}
use Rattle.mt_tracklist.specs.Ordered.{tree_of}
use Rattle.mt_sessionview.specs.Read.{tree_place}
use Rattle.mt_replica.proofs.shown.places_of.Given as goal

abbrev pub invariant-loop-op : goal.invariant-loop-op
invariant-loop-op g l = tree_of l.places.items ++ map tree_place (map (λ o. o.now) (drop l.op-index l.ops)) ≡ map tree_place (map (λ o. o.now) l.ops)

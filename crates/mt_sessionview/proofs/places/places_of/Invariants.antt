use Rattle.std.proofs.Common.{◌≡◌, map, take}
use Rattle.mt_tracklist.specs.Rising.{given_tree}
use Rattle.mt_sessionview.specs.Read.{tree_place}
use Rattle.mt_sessionview.proofs.places.places_of.Given as goal

abbrev pub invariant-loop-op : goal.invariant-loop-op
invariant-loop-op g l = given_tree l.places.items ≡ map tree_place (map (λ o. o.now) (take l.op-index l.ops))

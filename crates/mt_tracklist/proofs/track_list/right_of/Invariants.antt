use Rattle.std.proofs.Common.{◌≡◌, ◌+◌, drop}
use Rattle.mt_tracklist.specs.Ordered.{has_place}
use Rattle.mt_tracklist.specs.Skipping.{index_in}
use Rattle.mt_tracklist.proofs.track_list.right_of.Given as goal

abbrev pub invariant-loop-index : goal.invariant-loop-index
invariant-loop-index l = record { index : index_in l.places l.reference ≡ l.index + index_in (drop l.index l.places) l.reference; any : has_place l.places l.reference ≡ has_place (drop l.index l.places) l.reference }

use Rattle.std.proofs.Common.{◌≡◌, take}
use Rattle.std.specs.List.{filter_map}
use Rattle.std.specs.Map.{keys_of}
use Rattle.mt_sessionview.specs.Read.{marker_read}
use Rattle.mt_sessionview.proofs.marker.markers.Given as goal

abbrev pub invariant-loop-marker : goal.invariant-loop-marker
invariant-loop-marker g l = l.markers.items ≡ filter_map (marker_read l.items) (keys_of (take l.marker-index l.cells))

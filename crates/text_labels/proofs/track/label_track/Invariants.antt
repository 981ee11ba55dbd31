use Rattle.std.proofs.Common.{◌≡◌, take}
use Rattle.std.specs.List.{flat_map}
use Rattle.text_labels.specs.Labels.{label_line}
use Rattle.text_labels.proofs.track.label_track.Given as goal

abbrev pub invariant-loop-marker : goal.invariant-loop-marker
invariant-loop-marker g l = l.text.items ≡ flat_map (label_line l.rate) (take l.marker-index l.markers)

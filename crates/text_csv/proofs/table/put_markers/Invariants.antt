use Rattle.std.proofs.Common.{take}
use Rattle.text_csv.specs.Table.{markers_text}
use Rattle.text_csv.specs.Writing.{AddsText}
use Rattle.text_csv.proofs.table.put_markers.Given as goal

abbrev pub invariant-loop-marker : goal.invariant-loop-marker
invariant-loop-marker g l = AddsText l.initial.writer l.writer (markers_text l.rate (take l.marker-index l.markers))

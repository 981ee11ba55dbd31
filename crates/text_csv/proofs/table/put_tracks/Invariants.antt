use Rattle.std.proofs.Common.{take}
use Rattle.std.specs.List.{flat_map}
use Rattle.text_csv.specs.Table.{track_text}
use Rattle.text_csv.specs.Writing.{AddsText}
use Rattle.text_csv.proofs.table.put_tracks.Given as goal

abbrev pub invariant-loop-track : goal.invariant-loop-track
invariant-loop-track g l = AddsText l.initial.writer l.writer (flat_map (track_text l.rate) (take l.track-index l.tracks))

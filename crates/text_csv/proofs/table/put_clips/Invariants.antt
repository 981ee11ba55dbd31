use Rattle.std.proofs.Common.{take}
use Rattle.text_csv.specs.Table.{clips_text}
use Rattle.text_csv.specs.Writing.{AddsText}
use Rattle.text_csv.proofs.table.put_clips.Given as goal

abbrev pub invariant-loop-clip : goal.invariant-loop-clip
invariant-loop-clip g l = AddsText l.initial.writer l.writer (clips_text l.rate l.track (take l.clip-index l.clips))

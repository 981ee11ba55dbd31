use Rattle.std.proofs.Common.{◌≡◌, ◌^◌, length, take}
use Rattle.std.specs.Prelude.{min}
use Rattle.mt_cuewrite.specs.File.{before, list_content}
use Rattle.mt_cuewrite.proofs.size.count_marks.Given as goal

abbrev pub invariant-loop-marker : goal.invariant-loop-marker
invariant-loop-marker g l = record {
  markers : l.marks.markers ≡ length (before l.end (take l.marker-index l.markers));
  list : l.marks.list ≡ min (2 ^ 32) (length (list_content l.end (before l.end (take l.marker-index l.markers))));
}

use Rattle.std.proofs.Common.{◌≡◌, ◌+◌, length}
use Rattle.mt_bwfread.specs.Cues.{entries_left}
use Rattle.mt_bwfread.proofs.list.next_entry.Given as goal

abbrev pub invariant-loop-part : goal.invariant-loop-part
invariant-loop-part l = entries_left l.id l.fixed l.in_list l.in_file ≡ entries_left l.id l.fixed l.list l.file

abbrev pub decreases-loop-part : goal.decreases-loop-part
decreases-loop-part l = length l.in_list + length l.in_file

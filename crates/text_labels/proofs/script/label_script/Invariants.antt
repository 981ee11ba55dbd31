-- The lines of the labels so far are there, and those of the rest follow.
use Rattle.std.proofs.Common.{◌≡◌, ◌+◌, ◌≤◌, length}
use Rattle.base_text.specs.Cutting.{lines}
use Rattle.text_labels.specs.Reading.{before, script_from, label_script}
use Rattle.text_labels.proofs.script.label_script.Given as goal

abbrev pub invariant-loop-rest : goal.invariant-loop-rest
invariant-loop-rest g l = record {
  made : before l.text.items (script_from l.rate l.number l.next (lines l.rest))
      ≡ label_script l.rate l.fn.line l.fn.track;
  counted : l.number + length l.rest ≤ length l.fn.track + 1;
}

abbrev pub decreases-loop-rest : goal.decreases-loop-rest
decreases-loop-rest g l = length l.rest

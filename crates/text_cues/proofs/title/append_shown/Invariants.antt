-- What is there, and what is shown of the rest, is what is shown of all bytes.
use Rattle.std.proofs.Common.{◌≡◌, ◌++◌, length}
use Rattle.text_cues.specs.Title.{shown}
use Rattle.text_cues.proofs.title.append_shown.Given as goal

abbrev pub invariant-chunks : goal.invariant-chunks
invariant-chunks g l = l.text.items ++ shown l.rest ≡ l.initial.text.items ++ shown l.fn.bytes

abbrev pub decreases-chunks : goal.decreases-chunks
decreases-chunks g l = length l.rest

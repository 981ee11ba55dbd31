-- The lines of the events below the index are there, and the others follow.
use Rattle.std.proofs.Common.{◌≡◌, ◌+◌, ◌++◌, drop}
use Rattle.text_edl.specs.EditList.{events_text}
use Rattle.text_edl.proofs.list.append_events.Given as goal

abbrev pub invariant-loop-index : goal.invariant-loop-index
invariant-loop-index g l =
    l.text.items ++ events_text l.frame_rate l.rate l.names (l.index + 1) (drop l.index l.events)
    ≡ l.initial.text.items ++ events_text l.frame_rate l.rate l.names 1 l.events

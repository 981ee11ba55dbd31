-- The events of the segments below the index are there.
use Rattle.std.proofs.Common.{◌≡◌, map, take}
use Rattle.text_edl.specs.EditList.{event_in}
use Rattle.text_edl.specs.Steps.{AreSmall}
use Rattle.text_edl.proofs.event.heard_of.Given as goal

abbrev pub invariant-loop-index : goal.invariant-loop-index
invariant-loop-index g l = record {
  each : l.events.items ≡ map (event_in l.clips) (take l.index l.segments.items);
  small : AreSmall l.events.items;
}

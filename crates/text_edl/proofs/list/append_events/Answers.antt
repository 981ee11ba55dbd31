use Rattle.text_edl.proofs.Events.{lines_more}
use Rattle.text_edl.proofs.list.append_events.Goals as goal

pub loop-index-preserved : goal.loop-index-preserved
loop-index-preserved g c =
    lines_more c.args.frame_rate c.args.rate c.args.names.now c.args.events.now c.loop-index.index _ c.loop-index.text.items
    c.append_event.new.text.items _ c.loop-index-test.true c.in_ok-append_event.ensures c.loop-index.invariant

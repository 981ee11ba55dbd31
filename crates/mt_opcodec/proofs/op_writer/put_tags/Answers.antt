use Rattle.mt_opcodec.specs.OpText.{stamp_bytes}
use Rattle.mt_opcodec.proofs.Appends.{piece_more}
use Rattle.mt_opcodec.proofs.op_writer.put_tags.Goals as goal

pub loop-tag-preserved : goal.loop-tag-preserved
loop-tag-preserved g c =
    piece_more stamp_bytes _ c.args.tags.now c.loop-tag.tag-index c.tag-item.result c.loop-tag.out.items c.put_stamp.new.out.items c.loop-tag-test.true c.tag-item.is c.loop-tag.invariant c.in_ok-put_stamp.ensures

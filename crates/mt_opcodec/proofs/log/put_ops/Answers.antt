use Rattle.std.proofs.Common.{◌∙◌, ap}
use Rattle.mt_opcodec.specs.OpText.{op_text}
use Rattle.mt_opcodec.specs.Versions.{version_of_act}
use Rattle.mt_opcodec.proofs.Appends.{piece_more}
use Rattle.mt_opcodec.proofs.Versions.{asked_next}
use Rattle.mt_opcodec.proofs.log.put_ops.Goals as goal

pub loop-op-preserved : goal.loop-op-preserved
loop-op-preserved g c = (
  piece_more op_text c.args.out.now.items c.args.ops.now c.loop-op.op-index c.op-item.result c.loop-op.out.items c.put_op.new.out.items c.loop-op-test.true c.op-item.is c.loop-op.invariant.0 c.in_ok-put_op.ensures,
  asked_next c.args.ops.now c.loop-op.op-index c.op-item.result c.loop-op.version c.version_of_body.result c.max-version.result c.loop-op-test.true c.op-item.is c.loop-op.invariant.1 (c.version_of_body.ensures ∙ ap version_of_act c.body.ensures.act) c.max-version.ensures,
)

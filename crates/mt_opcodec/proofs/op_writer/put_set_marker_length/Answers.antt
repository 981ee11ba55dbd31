use Rattle.std.proofs.lemmas.Result.{on_ok_weaker}
use Rattle.mt_opcodec.proofs.Appends.{kind_and_pieces}
use Rattle.mt_opcodec.proofs.op_writer.put_set_marker_length.Goals as goal

pub returns : goal.returns
returns g c = on_ok_weaker c.put_frame.result (λ e. kind_and_pieces c.args.out.now.items _ _ _ _ _ 14 c.in_ok-push.ensures.items c.in_ok-put_stamp.ensures e) c.put_frame.ensures

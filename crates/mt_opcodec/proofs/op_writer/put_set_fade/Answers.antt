use Rattle.std.proofs.lemmas.Result.{on_ok_weaker}
use Rattle.mt_opcodec.proofs.Appends.{kind_and_pieces}
use Rattle.mt_opcodec.proofs.op_writer.put_set_fade.Goals as goal

pub returns : goal.returns
returns g c = on_ok_weaker c.put_fades.result (λ e. kind_and_pieces c.args.out.now.items _ _ _ _ _ 13 c.in_ok-push.ensures.items c.in_ok-put_stamp.ensures e) c.put_fades.ensures

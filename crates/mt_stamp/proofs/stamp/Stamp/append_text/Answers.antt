use Rattle.std.proofs.Common.{arith}
use Rattle.mt_stamp.proofs.Texts.{number_is_short, replica_is_short}
use Rattle.mt_stamp.proofs.stamp.Stamp.append_text.Goals as goal

pub returns-in_err-push_str-3-clause-err : goal.returns-in_err-push_str-3-clause-err
returns-in_err-push_str-3-clause-err g c =
    let clock = number_is_short c.clock.result c.format.result.now (omega arith) c.format.ensures.text in
    let seq = number_is_short c.seq.result c.format-2.result.now (omega arith) c.format-2.ensures.text in
    let replica = replica_is_short c.replica.result c.write.result.now c.write.ensures in
    absurd (omega (arith, c.in_ok-reserve.ensures.ok, c.in_ok-push_str.ensures.len, c.in_ok-push.ensures.len, c.in_ok-push_str-2.ensures.len, c.in_ok-push-2.ensures.len, c.in_err-push_str-3.ensures.full))

use Rattle.std.proofs.Common.{◌≡◌, ◌∙◌, ap, refl, length, map}
use Rattle.std.specs.Prelude.{max, slice_get, Some}
use Rattle.std.proofs.lemmas.Option.{slice_get_read}
use Rattle.mt_replica.specs.State.{own_seq}
use Rattle.mt_replica.specs.Made.{greatest_of}
use Rattle.mt_replica.proofs.Numbers.{next_greatest}
use Rattle.mt_replica.proofs.greatest.seq_of_run.Goals as goal

pub loop-op-preserved : goal.loop-op-preserved
loop-op-preserved g c =
    let ops = c.args.ops.now in
    let at : slice_get ops c.loop-op.op-index ≡ Some c.op-item.result = slice_get_read ops (length ops) c.loop-op.op-index c.op-item.result refl c.loop-op-test.true c.op-item.is in
    let top : c.greater-greatest.result ≡ max c.loop-op.greatest (own_seq c.args.name c.op-item.result) = c.greater-greatest.ensures ∙ ap (max c.loop-op.greatest) c.own_seq.ensures in
    rw top (next_greatest (own_seq c.args.name) ops c.loop-op.op-index c.loop-op.greatest (greatest_of (map (own_seq c.args.name) ops)) c.op-item.result at c.loop-op.invariant)

use Rattle.std.proofs.Common.{◌≡◌, refl, length}
use Rattle.std.specs.Prelude.{slice_get, Some}
use Rattle.std.proofs.lemmas.Option.{slice_get_read}
use Rattle.mt_op.specs.Needs.{clock_of}
use Rattle.mt_replica.specs.Made.{greatest_clock}
use Rattle.mt_replica.proofs.Numbers.{next_greatest}
use Rattle.mt_replica.proofs.greatest.clock_of_run.Goals as goal

pub loop-op-preserved : goal.loop-op-preserved
loop-op-preserved g c =
    let ops = c.args.ops.now in
    let at : slice_get ops c.loop-op.op-index ≡ Some c.op-item.result = slice_get_read ops (length ops) c.loop-op.op-index c.op-item.result refl c.loop-op-test.true c.op-item.is in
    rw (c.greater-greatest.ensures, c.clock.ensures.value, c.stamp.ensures.value) (next_greatest clock_of ops c.loop-op.op-index c.loop-op.greatest (greatest_clock ops) c.op-item.result at c.loop-op.invariant)

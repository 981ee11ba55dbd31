use Rattle.mt_op.specs.Needs.{clock_of}
use Rattle.mt_opcodec.specs.Runs.{run_ops}
use Rattle.mt_replica.specs.Made.{greatest_clock}
use Rattle.mt_replica.proofs.Numbers.{next_run}
use Rattle.mt_replica.proofs.greatest.greatest_clock.Goals as goal

pub loop-run-preserved : goal.loop-run-preserved
loop-run-preserved g c =
    rw (c.greater-greatest.ensures, c.clock_of_run.ensures)
    (next_run clock_of c.args.runs.now c.loop-run.run-index c.loop-run.greatest (greatest_clock (run_ops c.args.runs.now)) c.run-item.result c.ops.result.now c.loop-run-test.true c.run-item.is c.ops.ensures.value c.loop-run.invariant)

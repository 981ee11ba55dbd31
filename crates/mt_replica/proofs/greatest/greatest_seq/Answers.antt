use Rattle.std.proofs.Common.{map}
use Rattle.mt_opcodec.specs.Runs.{run_ops}
use Rattle.mt_replica.specs.Made.{greatest_of}
use Rattle.mt_replica.specs.State.{own_seq}
use Rattle.mt_replica.proofs.Numbers.{next_run}
use Rattle.mt_replica.proofs.greatest.greatest_seq.Goals as goal

pub loop-run-preserved : goal.loop-run-preserved
loop-run-preserved g c =
    rw (c.greater-greatest.ensures, c.seq_of_run.ensures)
    (next_run (own_seq c.args.name) c.args.runs.now c.loop-run.run-index c.loop-run.greatest (greatest_of (map (own_seq c.args.name) (run_ops c.args.runs.now))) c.run-item.result c.ops.result.now c.loop-run-test.true c.run-item.is c.ops.ensures.value c.loop-run.invariant)

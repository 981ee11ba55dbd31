use Rattle.std.proofs.Common.{◌≡◌, drop, slice_get}
use Rattle.mt_opcodec.specs.Runs.{run_ops}
use Rattle.mt_opcodec.proofs.run_list.op_of_runs.Given as goal

abbrev pub invariant-loop-run : goal.invariant-loop-run
invariant-loop-run g l = slice_get (run_ops l.runs) l.i ≡ slice_get (run_ops (drop l.run-index l.runs)) l.place

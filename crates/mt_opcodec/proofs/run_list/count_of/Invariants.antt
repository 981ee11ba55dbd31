use Rattle.std.proofs.Common.{◌≡◌, length, take}
use Rattle.mt_opcodec.specs.Runs.{run_ops}
use Rattle.mt_opcodec.proofs.run_list.count_of.Given as goal

abbrev pub invariant-loop-run : goal.invariant-loop-run
invariant-loop-run g l = l.count ≡ length (run_ops (take l.run-index l.runs))

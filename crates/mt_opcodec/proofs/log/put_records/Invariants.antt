use Rattle.std.proofs.Common.{◌≡◌, ◌++◌, take, length}
use Rattle.mt_opcodec.specs.Versions.{version_of}
use Rattle.mt_opcodec.specs.LogText.{log_head, op_texts}
use Rattle.mt_opcodec.specs.Runs.{run_ops}
use Rattle.mt_opcodec.proofs.log.put_records.Given as goal

abbrev pub invariant-loop-run : goal.invariant-loop-run
invariant-loop-run g l = (l.out.items ≡ log_head 1 (length (run_ops l.runs)) ++ op_texts (run_ops (take l.run-index l.runs))) × (l.version ≡ version_of (run_ops (take l.run-index l.runs)))

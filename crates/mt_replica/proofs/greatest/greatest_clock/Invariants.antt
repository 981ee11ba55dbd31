-- What was found and what is left have the greatest clock of all.
use Rattle.std.proofs.Common.{◌≡◌, drop}
use Rattle.std.specs.Prelude.{max}
use Rattle.mt_opcodec.specs.Runs.{run_ops}
use Rattle.mt_replica.specs.Made.{greatest_clock}
use Rattle.mt_replica.proofs.greatest.greatest_clock.Given as goal

abbrev pub invariant-loop-run : goal.invariant-loop-run
invariant-loop-run g l = max l.greatest (greatest_clock (run_ops (drop l.run-index l.runs))) ≡ greatest_clock (run_ops l.runs)

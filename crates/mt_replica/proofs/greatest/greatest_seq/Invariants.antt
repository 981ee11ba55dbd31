-- What was found and what is left have the greatest number of all.
use Rattle.std.proofs.Common.{◌≡◌, drop, map}
use Rattle.std.specs.Prelude.{max}
use Rattle.mt_opcodec.specs.Runs.{run_ops}
use Rattle.mt_replica.specs.Made.{greatest_of}
use Rattle.mt_replica.specs.State.{own_seq}
use Rattle.mt_replica.proofs.greatest.greatest_seq.Given as goal

abbrev pub invariant-loop-run : goal.invariant-loop-run
invariant-loop-run g l = max l.greatest (greatest_of (map (own_seq l.name) (run_ops (drop l.run-index l.runs)))) ≡ greatest_of (map (own_seq l.name) (run_ops l.runs))

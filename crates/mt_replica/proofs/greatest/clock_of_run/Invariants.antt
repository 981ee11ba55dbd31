-- What was found and what is left have the greatest clock of all.
use Rattle.std.proofs.Common.{◌≡◌, drop}
use Rattle.std.specs.Prelude.{max}
use Rattle.mt_replica.specs.Made.{greatest_clock}
use Rattle.mt_replica.proofs.greatest.clock_of_run.Given as goal

abbrev pub invariant-loop-op : goal.invariant-loop-op
invariant-loop-op g l = max l.greatest (greatest_clock (drop l.op-index l.ops)) ≡ greatest_clock l.ops

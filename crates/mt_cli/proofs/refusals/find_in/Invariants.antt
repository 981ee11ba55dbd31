-- None of the refusals that were looked at has the number.
use Rattle.std.proofs.Common.{◌≢◌, drop}
use Rattle.std.specs.List.{AllByRecursion}
use Rattle.mt_cli.specs.declared.refusals.Refusal.{Refusal as RefusalOf}
use Rattle.mt_cli.proofs.refusals.find_in.Given as goal

abbrev pub invariant-loop-one : goal.invariant-loop-one
invariant-loop-one l = AllByRecursion (λ (r : RefusalOf). r.number ≢ l.number) (drop l.one-index l.table) → AllByRecursion (λ (r : RefusalOf). r.number ≢ l.number) l.table

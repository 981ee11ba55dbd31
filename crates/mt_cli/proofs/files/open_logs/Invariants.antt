-- There is a log for each name below the index.
use Rattle.std.proofs.Common.{◌≡◌, length}
use Rattle.mt_cli.proofs.files.open_logs.Given as goal

abbrev pub invariant-loop-index : goal.invariant-loop-index
invariant-loop-index g l = length l.logs.items ≡ l.index

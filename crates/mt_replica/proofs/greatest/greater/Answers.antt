use Rattle.std.proofs.Common.{arith}
use Rattle.mt_replica.proofs.Numbers.{greater_first, greater_second}
use Rattle.mt_replica.proofs.greatest.greater.Goals as goal

pub returns-then-first-second : goal.returns-then-first-second
returns-then-first-second c = greater_second c.args.first c.args.second (omega arith)

pub returns-else-first-second : goal.returns-else-first-second
returns-else-first-second c = greater_first c.args.first c.args.second (omega arith)

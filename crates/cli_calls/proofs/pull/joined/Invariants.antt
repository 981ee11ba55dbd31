use Rattle.std.proofs.Common.{length}
use Rattle.cli_calls.proofs.Pulling.{HasShared}
use Rattle.cli_calls.proofs.pull.joined.Given as goal

abbrev pub invariant-loop-log : goal.invariant-loop-log
invariant-loop-log g l = HasShared l.all l.rest.items l.shares.items l.fn.logs.items

abbrev pub decreases-loop-log : goal.decreases-loop-log
decreases-loop-log g l = length l.rest.items

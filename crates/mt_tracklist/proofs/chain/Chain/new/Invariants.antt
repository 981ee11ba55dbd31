use Rattle.std.proofs.Common.{◌≡◌, length}
use Rattle.mt_tracklist.proofs.chain.Chain.new.Given as goal

abbrev pub invariant-loop : goal.invariant-loop
invariant-loop g l = length l.next.items ≡ l.counter

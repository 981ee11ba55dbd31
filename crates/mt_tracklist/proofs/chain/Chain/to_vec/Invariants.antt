use Rattle.std.proofs.Common.{◌≡◌, ℕ, ◌+◌, ◌++◌, length}
use Rattle.mt_tracklist.specs.Links.{spelled}
use Rattle.mt_tracklist.proofs.chain.Chain.to_vec.Given as goal

-- what is walked, and what is left of the walk, are the list
abbrev pub invariant-loop : goal.invariant-loop
invariant-loop g l = (m : ℕ) → l.counter + m ≡ length l.self-inside.next.items → l.places.items ++ spelled m l.self-inside.next.items l.at ≡ l.self.items

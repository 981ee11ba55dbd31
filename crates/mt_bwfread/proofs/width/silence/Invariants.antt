-- The samples below the index are zero.
use Rattle.std.proofs.Common.{◌≡◌, ℕ, ◌<◌, pos}
use Rattle.mt_bwfread.specs.Fill.{at}
use Rattle.mt_bwfread.proofs.width.silence.Given as goal

abbrev pub invariant-loop-sample : goal.invariant-loop-sample
invariant-loop-sample l = (k : ℕ) → k < l.sample-index → at l.samples k ≡ pos 0

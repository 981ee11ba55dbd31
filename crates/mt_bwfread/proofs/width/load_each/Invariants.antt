-- The samples below the index are read.
use Rattle.std.proofs.Common.{◌≡◌, ℕ, ◌*◌, ◌<◌, drop}
use Rattle.mt_bwfread.specs.Wave.{scaled}
use Rattle.mt_bwfread.specs.Fill.{at}
use Rattle.mt_bwfread.proofs.width.load_each.Given as goal

abbrev pub invariant-loop-index : goal.invariant-loop-index
invariant-loop-index g l = (k : ℕ) → k < l.index → at l.samples k ≡ scaled g.W.Width.bits (drop (k * l.step) l.bytes)

use Rattle.std.proofs.Common.{◌≡◌, ℕ, ◌<◌, length}
use Rattle.mt_overlap.specs.Overlap.{span_at}
use Rattle.mt_overlap.specs.Sweep.{order_at}
use Rattle.mt_overlap.proofs.sweep.by_start.Given as goal

abbrev pub invariant-loop-index : goal.invariant-loop-index
invariant-loop-index g l =
    (length l.order.items ≡ l.index)
    × ((k : ℕ) → k < l.index → order_at l.order.items k ≡ ((span_at l.spans k).start, k))

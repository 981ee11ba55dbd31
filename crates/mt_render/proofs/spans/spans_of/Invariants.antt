-- The spans of the clips below the index.
use Rattle.std.proofs.Common.{◌≡◌, ℕ, ◌<◌, length}
use Rattle.mt_overlap.specs.Overlap.{span_at}
use Rattle.mt_render.specs.Lanes.{clip_at, span_of}
use Rattle.mt_render.proofs.spans.spans_of.Given as goal

abbrev pub invariant-loop-index : goal.invariant-loop-index
invariant-loop-index g l =
    (length l.spans.items ≡ l.index)
    × ((k : ℕ) → k < l.index → span_at l.spans.items k ≡ span_of (clip_at l.clips k))

-- The samples of the sums below the index are put, and no others.
use Rattle.std.proofs.Common.{◌≡◌, ◌≢◌, ℕ, ◌+◌, ◌*◌, ◌<◌, ℤ}
use Rattle.std.specs.Int.{w64, int_wrap}
use Rattle.mt_bwfread.specs.Fill.{at}
use Rattle.mt_render.specs.Mix.{output}
use Rattle.mt_render.specs.Sums.{IsNarrow}
use Rattle.mt_render.proofs.block.put_channel.Given as goal

abbrev pub invariant-loop-index : goal.invariant-loop-index
invariant-loop-index l = record {
  put : (k : ℕ) → k < l.index → (z : ℤ) → IsNarrow z → int_wrap w64 (at l.sums k) ≡ int_wrap w64 z → at l.samples (k * l.channels + l.channel) ≡ output l.bits z;
  others : (j : ℕ) → ((k : ℕ) → k < l.index → j ≢ k * l.channels + l.channel) → at l.samples j ≡ at l.fn.samples j;
}

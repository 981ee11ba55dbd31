-- The sums below the index have gained, and the others are as they were.
use Rattle.std.proofs.Common.{◌≡◌, ℕ, ◌+◌, ◌*◌, ◌<◌, ◌≤◌, ◌+ℤ◌, ◌*ℤ◌, pos}
use Rattle.std.specs.Int.{w64, int_wrap}
use Rattle.mt_bwfread.specs.Fill.{at}
use Rattle.mt_render.specs.Mix.{rounded}
use Rattle.mt_render.specs.Fading.{loudness, most}
use Rattle.mt_render.proofs.fade.Fades.add_divided.Given as goal

abbrev pub invariant-loop-k : goal.invariant-loop-k
invariant-loop-k l =
    ((j : ℕ) → j < l.k → int_wrap w64 (at l.sums j) ≡ int_wrap w64 (at l.fn.sums j +ℤ rounded (at l.samples j *ℤ pos (l.scale.num * loudness l.fades (l.index + j))) (l.scale.den * most l.fades)))
    × ((j : ℕ) → l.k ≤ j → at l.sums j ≡ at l.fn.sums j)

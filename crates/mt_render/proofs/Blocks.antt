-- Samples that are filled one after another.
use Rattle.std.proofs.Common.{◌≡◌, ◌≢◌, ℕ, ◌+◌, ◌-◌, ◌*◌, ◌<◌, ◌≤◌, ap, List, length, get_or, ℤ, pos, to_z, of_z, sym, ◌∙◌, subst, arith, inl, inr}
use Rattle.std.specs.Int.{w32}
use Rattle.std.proofs.lemmas.Bool.{cases_lt}
use Rattle.std.proofs.lemmas.List.{get_or-set_same, get_or-set_other}
use Rattle.std.proofs.lemmas.Nat.{mul-add-lt}
use Rattle.std.proofs.Math.ListN.{set}
use borrow.Rule.Slice.PartMut.{put_mid}
use Rattle.mt_bwfread.specs.Fill.{at}
use Rattle.mt_render.proofs.Gaining.{before_mid, in_mid}

pub filled : (samples : List ℤ) (i : ℕ) (z : ℤ) (sample : ℕ → ℤ) → i < length samples → to_z w32 (of_z w32 z) ≡ z → z ≡ sample i → ((k : ℕ) → k < i → get_or samples k (pos 0) ≡ sample k)
    → (k : ℕ) → k < i + 1 → get_or (set samples i (to_z w32 (of_z w32 z))) k (pos 0) ≡ sample k
filled samples i z sample lt back is before k below =
    let stored = to_z w32 (of_z w32 z) in
    elim (cases_lt k i) [
      | inl low ↦ let apart : k ≢ i = omega arith in get_or-set_other samples i k stored (pos 0) apart ∙ before k low
      | inr high ↦
          let same : k ≡ i = omega arith in
          subst (λ (n : ℕ). get_or (set samples i stored) n (pos 0) ≡ sample n) (sym same) (get_or-set_same samples i stored (pos 0) lt ∙ back ∙ is)
    ]

-- A piece of the frames more, the channels side by side.
pub pieces : (xs ys : List ℤ) (done count w n : ℕ) (want : ℕ → ℕ → ℤ) → (done + count) * w ≤ length xs → n ≡ (done + count) * w - done * w → length ys ≡ n
    → ((k c : ℕ) → k < done → c < w → at xs (k * w + c) ≡ want k c) → ((k c : ℕ) → k < count → c < w → at ys (k * w + c) ≡ want (done + k) c)
    → (k c : ℕ) → k < done + count → c < w → at (put_mid (done * w) n xs ys) (k * w + c) ≡ want k c
pieces xs ys done count w n want room is len before this k c low below =
    elim (cases_lt k done) [
      | inl early ↦
          let p = mul-add-lt k w c done early below in
          let q : k * w + c < done * w = omega arith in
          before_mid xs ys (done * w) n (k * w + c) q (omega arith) ∙ before k c early below
      | inr late ↦
          let j = k - done in
          let same : done + j ≡ k = omega arith in
          let p = mul-add-lt j w c count (omega arith) below in
          let place : done * w + (j * w + c) ≡ (done + j) * w + c = omega arith in
          subst (λ (m : ℕ). at (put_mid (done * w) n xs ys) (m * w + c) ≡ want m c) same
          (ap (at (put_mid (done * w) n xs ys)) (sym place) ∙ in_mid xs ys (done * w) n (j * w + c) len (omega arith) (omega arith) ∙ this j c (omega arith) below)
    ]

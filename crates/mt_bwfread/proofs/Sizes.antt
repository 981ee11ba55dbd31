-- How great samples are.
use Rattle.std.proofs.Common.{◌≡◌, ℕ, ◌+◌, ◌*◌, ◌^◌, ◌<◌, ◌≤◌, true, false, List, drop, get_or, ℤ, pos, negsuc, ◌-ℤ◌, ◌*ℤ◌, arith, inl, inr}
use Rattle.std.specs.Prelude.{◌==◌, nat_lt, neg_ℤ, unsigned_abs, if◌then◌else◌}
use Rattle.std.proofs.lemmas.Bool.{cases_Bool, cases_lt}
use Rattle.std.proofs.lemmas.Bool.Decides.{nat_tests}
use Rattle.std.proofs.lemmas.List.{get_or-drop}
use Rattle.std.proofs.Math.Nat.{mul-le-mul_right}
use borrow.Author.Differences.{up, down, sum_is_lem, product_is, neg_is}
use Rattle.byteorder.specs.Endian.{little_number, twos_complement}
use Rattle.mt_bwfread.specs.Wave.{scaled, sample_of, frames_of}
use Rattle.mt_bwfread.specs.Fill.{sample_or_silence}

pub abs_is : (z : ℤ) → unsigned_abs z ≡ up z + down z
abs_is (pos n) = omega arith
abs_is (negsuc n) = omega arith

-- what two numbers differ by
pub gap_small : (z : ℤ) (a b top : ℕ) → up z + b ≡ down z + a → a ≤ b + top → b ≤ a + top → unsigned_abs z ≤ top
gap_small (pos n) a b top e above below = omega arith
gap_small (negsuc n) a b top e above below = omega arith

minus_is : (x n : ℕ) → up (pos x -ℤ pos n) + n ≡ down (pos x -ℤ pos n) + x
minus_is x n = omega (arith, sum_is_lem (pos x) (neg_ℤ (pos n)), (neg_is (pos n)).0, (neg_is (pos n)).1)

pub abs_times : (z : ℤ) (n top : ℕ) → unsigned_abs z ≤ top → unsigned_abs (z *ℤ pos n) ≤ top * n
abs_times z n top small =
    let p = product_is z (pos n) in
    let more : (up z + down z) * n ≤ top * n = mul-le-mul_right n (omega (arith, abs_is z, small)) in
    omega (arith, abs_is (z *ℤ pos n), p, more)

minus_small : (x half : ℕ) → x < 2 * half → half ≤ x → unsigned_abs (pos x -ℤ pos (2 * half)) ≤ half
minus_small x half below from = gap_small (pos x -ℤ pos (2 * half)) x (2 * half) half (minus_is x (2 * half)) (omega arith) (omega arith)

complement_small : (x half : ℕ) → x < 2 * half → unsigned_abs (if nat_lt x half then pos x else pos x -ℤ pos (2 * half)) ≤ half
complement_small x half below =
    elim (cases_lt x half) [
      | inl low ↦ let t : nat_lt x half ≡ true = grind (arith, nat_tests) in rw t (omega arith)
      | inr high ↦ let t : nat_lt x half ≡ false = grind (arith, nat_tests) in rw t (minus_small x half below high)
    ]

abbrev AreBytes : List ℕ → Type 0
AreBytes xs = (i : ℕ) → get_or xs i 0 < 256

eight : (b : ℕ) → b < 256 → unsigned_abs ((pos b -ℤ pos 128) *ℤ pos (2 ^ 24)) ≤ 2 ^ 31
eight b small = abs_times (pos b -ℤ pos 128) (2 ^ 24) 128 (gap_small (pos b -ℤ pos 128) b 128 128 (minus_is b 128) (omega arith) (omega arith))

two : (xs : List ℕ) → AreBytes xs → unsigned_abs (twos_complement 2 (little_number 2 xs) *ℤ pos (2 ^ 16)) ≤ 2 ^ 31
two xs are = abs_times (twos_complement 2 (little_number 2 xs)) (2 ^ 16) (2 ^ 15) (complement_small (little_number 2 xs) (2 ^ 15) (omega (arith, are 0, are 1)))

three : (xs : List ℕ) → AreBytes xs → unsigned_abs (twos_complement 3 (little_number 3 xs) *ℤ pos (2 ^ 8)) ≤ 2 ^ 31
three xs are = abs_times (twos_complement 3 (little_number 3 xs)) (2 ^ 8) (2 ^ 23) (complement_small (little_number 3 xs) (2 ^ 23) (omega (arith, are 0, are 1, are 2)))

four : (xs : List ℕ) → AreBytes xs → unsigned_abs (twos_complement 4 (little_number 4 xs)) ≤ 2 ^ 31
four xs are = complement_small (little_number 4 xs) (2 ^ 31) (omega (arith, are 0, are 1, are 2, are 3))

scaled_in : (bits : ℕ) (xs : List ℕ) → AreBytes xs → unsigned_abs (scaled bits xs) ≤ 2 ^ 31
unfolding scaled
scaled_in bits xs are =
    elim (cases_Bool (bits == 8)) [
      | inl y ↦ rw y (eight (get_or xs 0 0) (are 0))
      | inr n8 ↦ elim (cases_Bool (bits == 16)) [
        | inl y ↦ rw (n8, y) (two xs are)
        | inr n16 ↦ elim (cases_Bool (bits == 24)) [
          | inl y ↦ rw (n8, n16, y) (three xs are)
          | inr n24 ↦ rw (n8, n16, n24) (four xs are)
        ]
      ]
    ]

pub scaled_small : (bits at : ℕ) (xs : List ℕ) → ((i : ℕ) → get_or xs i 0 < 256) → unsigned_abs (scaled bits (drop at xs)) ≤ 2 ^ 31
scaled_small bits at xs are = scaled_in bits (drop at xs) (λ i. rw (get_or-drop at xs i 0) (are (at + i)))

pub silence_small : (text : List ℕ) (frame channel : ℕ) → unsigned_abs (sample_of text frame channel) ≤ 2 ^ 31 → unsigned_abs (sample_or_silence text frame channel) ≤ 2 ^ 31
silence_small text frame channel small =
    elim (cases_Bool (nat_lt frame (frames_of text))) [
      | inl y ↦ rw y small
      | inr n ↦ rw n (omega arith)
    ]

-- Samples of 24 bits by the bytes of sixteen.
use Rattle.std.proofs.Common.{◌≡◌, ◌≢◌, ℕ, ◌+◌, ◌*◌, ◌<◌, ◌≤◌, List, [], ◌∷◌, length, take, drop, slice_index, slice_set, ℤ, pos, inl, inr, refl, ◌∙◌, arith, rules, to_z}
use Rattle.std.specs.Int.{w32}
use Rattle.std.proofs.lemmas.Bool.{cases_lt}
use Rattle.std.proofs.lemmas.List.{places, drop-drop, get_or-set_same, get_or-set_other}
use Rattle.mt_bwfread.specs.Wave.{scaled}
use Rattle.mt_bwfread.specs.Fill.{at}

of_three : (xs : List ℕ) (a b c : ℕ) → a ≡ slice_index xs 0 → b ≡ slice_index xs 1 → c ≡ slice_index xs 2 → scaled 24 (a ∷ b ∷ c ∷ []) ≡ scaled 24 xs
unfolding scaled
of_three xs a b c ea eb ec = rw (ea, eb, ec) refl

-- a word whose lowest byte is zero
word_is : (a b c : ℕ) → a < 256 → b < 256 → c < 256 → to_z w32 (256 * a + 65536 * b + 16777216 * c) ≡ scaled 24 (a ∷ b ∷ c ∷ [])
unfolding scaled
word_is a b c ha hb hc = search (rules, arith)

there : (xs : List ℕ) (n k : ℕ) → n + k < 16 → slice_index (take 16 xs) (n + k) ≡ slice_index (drop n xs) k
there xs n k lt = search (rules, places)

pub first_of : (xs : List ℕ) (i : ℕ) → i < 16 → slice_index (take 16 xs) i ≡ slice_index xs i
first_of xs i lt = search (rules, places)

-- the word of the three bytes from n on
pub sample_at : (xs : List ℕ) (n : ℕ) (z : ℤ) → n + 3 ≤ 16 → ((i : ℕ) → i < 16 → slice_index (take 16 xs) i < 256)
    → z ≡ to_z w32 (256 * slice_index (take 16 xs) (n + 0) + 65536 * slice_index (take 16 xs) (n + 1) + 16777216 * slice_index (take 16 xs) (n + 2)) → z ≡ scaled 24 (drop n xs)
sample_at xs n z fits byte is =
    is ∙ word_is (slice_index (take 16 xs) (n + 0)) (slice_index (take 16 xs) (n + 1)) (slice_index (take 16 xs) (n + 2)) (byte (n + 0) (omega arith)) (byte (n + 1) (omega arith)) (byte (n + 2) (omega arith))
    ∙ of_three (drop n xs) _ _ _ (there xs n 0 (omega arith)) (there xs n 1 (omega arith)) (there xs n 2 (omega arith))

-- the first n samples are read
abbrev pub AreFirst : List ℕ → List ℤ → ℕ → Type 0
AreFirst bytes xs n = (k : ℕ) → k < n → at xs k ≡ scaled 24 (drop (k * 3) bytes)

-- and one more
pub one_more : (bytes : List ℕ) (xs : List ℤ) (n m : ℕ) (z : ℤ) → n < length xs → m ≡ n + 1 → z ≡ scaled 24 (drop (n * 3) bytes) → AreFirst bytes xs n → AreFirst bytes (slice_set xs n z) m
one_more bytes xs n m z lt em ez before = λ k h.
    elim (cases_lt k n) [
      | inl a ↦ let ne : k ≢ n = omega arith in get_or-set_other xs n k z (pos 0) ne ∙ before k a
      | inr ge ↦
          let e : n ≡ k = omega arith in
          rw (← e) (get_or-set_same xs n z (pos 0) lt ∙ ez)
    ]

-- the sample n bytes behind the front of what is left
pub behind : (bytes left : List ℕ) (n m k : ℕ) (z : ℤ) → left ≡ drop m bytes → k ≡ m + n → z ≡ scaled 24 (drop n left) → z ≡ scaled 24 (drop k bytes)
behind bytes left n m k z el e ez = ez ∙ rw (el, e, drop-drop n m bytes) refl

-- Sums that have gained.
use Rattle.std.proofs.Common.{◌≡◌, ℕ, ◌+◌, ◌-◌, ◌*◌, ◌%◌, ◌^◌, ◌<◌, ◌≤◌, ◌∙◌, refl, sym, ap, List, length, length-take, length-drop, take, drop, ℤ, pos, ◌+ℤ◌, ◌*ℤ◌, FitsSigned, to_z, of_z, arith, rules, inl, inr}
use Rattle.std.specs.Prelude.{nat_le, nat_lt, true, min}
use Rattle.std.specs.Int.{w32, w64, int_wrap}
use Rattle.std.proofs.lemmas.Bool.{cases_lt}
use Rattle.std.proofs.lemmas.Bool.Decides.{nat_tests}
use Rattle.std.proofs.lemmas.Int.{to_z-of_z, wrapping_add_is, int_wrap_fits, SFits-int_wrap, int_wrap-add_same, fits_signed_from_abs}
use Rattle.std.proofs.lemmas.List.{places, get_or-take, get_or-drop}
use borrow.Rule.Slice.PartMut.{put_mid}
use Rattle.mt_bwfread.specs.Wave.{channels_of}
use Rattle.mt_bwfread.specs.Fill.{at, sample_or_silence}
use Rattle.mt_render.specs.declared.part.Part.{Part}
use Rattle.mt_render.specs.Fading.{loudness, most}
use Rattle.mt_render.specs.Mix.{rounded}
use Rattle.mt_render.specs.Parts.{gives}
use Rattle.mt_render.specs.Sums.{HaveGained, IsNarrow}
use Rattle.mt_render.proofs.Adding.{grouped}
use Rattle.mt_render.proofs.Lanes.{and_nothing, nothing_and}

-- what a sum is, modulo 2^64, where one more is added to it
pub gained : (f : ℤ → ℤ) (s o r x : ℤ) → FitsSigned w64 s → FitsSigned w64 r → FitsSigned w32 x → s ≡ o → r ≡ f (to_z w32 (of_z w32 x))
    → int_wrap w64 (to_z w64 ((of_z w64 s + of_z w64 r) % 2 ^ 64)) ≡ int_wrap w64 (o +ℤ f x)
gained f s o r x fs fr fx same gives =
    ap (int_wrap w64) (wrapping_add_is w64 s r fs fr ∙ rw (same, gives, to_z-of_z w32 x fx) refl)
    ∙ int_wrap_fits w64 (int_wrap w64 (o +ℤ f x)) (SFits-int_wrap w64 (o +ℤ f x))

-- to gain nothing is to stay
pub stays : (z g : ℤ) → g ≡ pos 0 → int_wrap w64 z ≡ int_wrap w64 (z +ℤ g)
stays z g none = rw (none, and_nothing z) refl

-- to gain once more
pub gained_more : (old mid new before g after : ℤ) → int_wrap w64 mid ≡ int_wrap w64 (old +ℤ before) → int_wrap w64 new ≡ int_wrap w64 (mid +ℤ g) → before +ℤ g ≡ after
    → int_wrap w64 new ≡ int_wrap w64 (old +ℤ after)
gained_more old mid new before g after had more is =
    more ∙ int_wrap-add_same w64 mid (old +ℤ before) g had ∙ ap (int_wrap w64) (grouped old before g ∙ ap (λ z. old +ℤ z) is)

-- ---- a part of the sums

pub before_mid : (xs ys : List ℤ) (a n k : ℕ) → k < a → a + n ≤ length xs → at (put_mid a n xs ys) k ≡ at xs k
before_mid xs ys a n k h room = search (rules, places)

pub in_mid : (xs ys : List ℤ) (a n k : ℕ) → length ys ≡ n → k < n → a + n ≤ length xs → at (put_mid a n xs ys) (a + k) ≡ at ys k
in_mid xs ys a n k len h room = search (rules, places)

after_mid : (xs ys : List ℤ) (a n k : ℕ) → length ys ≡ n → a + n ≤ k → k < length xs → a + n ≤ length xs → at (put_mid a n xs ys) k ≡ at xs k
after_mid xs ys a n k len h within room = search (rules, places)

-- A part has gained what the whole is to gain there, which is nothing elsewhere.
pub gained_mid : (xs ys : List ℤ) (a n : ℕ) (g h : ℕ → ℤ) → length ys ≡ n → a + n ≤ length xs
    → HaveGained (take n (drop a xs)) ys g → ((k : ℕ) → k < n → g k ≡ h (a + k)) → ((k : ℕ) → k < a → h k ≡ pos 0) → ((k : ℕ) → a + n ≤ k → k < length xs → h k ≡ pos 0)
    → HaveGained xs (put_mid a n xs ys) h
gained_mid xs ys a n g h len room gained inside before after k within =
    elim (cases_lt k a) [
      | inl low ↦ rw (before_mid xs ys a n k low room) (stays (at xs k) (h k) (before k low))
      | inr from ↦ elim (cases_lt k (a + n)) [
        | inr high ↦ rw (after_mid xs ys a n k len high within room) (stays (at xs k) (h k) (after k high within))
        | inl low ↦
            let j = k - a in
            let is : a + j ≡ k = omega arith in
            let short : j < n = omega arith in
            let there : at (take n (drop a xs)) j ≡ at xs (a + j) = get_or-take n (drop a xs) j (pos 0) short ∙ get_or-drop a xs j (pos 0) in
            rw (← is) (ap (int_wrap w64) (in_mid xs ys a n j len short room) ∙ gained j (simp (length-take, length-drop) (omega arith)) ∙ ap (int_wrap w64) (rw (there, inside j short) refl))
      ]
    ]

-- what a part gives in a frame that it holds
pub inside : (p : Part) (f c : ℕ) → p.start ≤ f → f < p.end
    → gives f c p ≡ rounded (sample_or_silence p.wave.now (p.offset + (f - p.at)) (min c (channels_of p.wave.now - 1)) *ℤ pos (p.scale.num * loudness p.fades (f - p.at))) (p.scale.den * most p.fades)
inside p f c from to =
    let a : nat_le p.start f ≡ true = grind (arith, nat_tests) in
    let b : nat_lt f p.end ≡ true = grind (arith, nat_tests) in
    rw (a, b) refl

-- ---- the end

narrow_fits : (z : ℤ) → IsNarrow z → FitsSigned w64 z
narrow_fits z h = fits_signed_from_abs w64 z (omega arith)

-- a sum that is known modulo 2^64 and narrow is known
pub narrow_is : (f : ℤ → ℤ) (r s z : ℤ) → FitsSigned w64 s → IsNarrow z → int_wrap w64 s ≡ int_wrap w64 z
    → (IsNarrow (to_z w64 (of_z w64 s)) → r ≡ f (to_z w64 (of_z w64 s))) → r ≡ f z
narrow_is f r s z fits narrow same h =
    let is : to_z w64 (of_z w64 s) ≡ z = to_z-of_z w64 s fits ∙ sym (int_wrap_fits w64 s fits) ∙ same ∙ int_wrap_fits w64 z (narrow_fits z narrow) in
    h (rw is narrow) ∙ ap f is

-- what a silent sum has gained is its value
pub from_silence : (old new z : ℤ) → old ≡ pos 0 → int_wrap w64 new ≡ int_wrap w64 (old +ℤ z) → int_wrap w64 new ≡ int_wrap w64 z
from_silence old new z none gained = gained ∙ ap (int_wrap w64) (rw none (nothing_and z))

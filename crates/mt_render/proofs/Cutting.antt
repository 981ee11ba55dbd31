-- A part that is cut into stretches of its clip's frames.
use Rattle.std.proofs.Common.{◌≡◌, ℕ, ◌+◌, ◌-◌, ◌*◌, ◌<◌, ◌≤◌, true, false, ℤ, pos, ◌+ℤ◌, ◌*ℤ◌, refl, sym, ◌∙◌, ap, arith, inl, inr}
use Rattle.std.specs.Prelude.{nat_le, nat_lt, min, max}
use Rattle.std.proofs.lemmas.Bool.{cases_Bool, cases_lt}
use Rattle.std.proofs.lemmas.Bool.Decides.{nat_tests}
use Rattle.std.proofs.lemmas.Nat.{mul-le}
use Rattle.mt_bwfread.specs.Wave.{channels_of}
use Rattle.mt_bwfread.specs.Fill.{sample_or_silence}
use Rattle.mt_render.specs.declared.fade.Fades.{Fades}
use Rattle.mt_render.specs.declared.part.Part.{Part}
use Rattle.mt_render.specs.Mix.{rounded}
use Rattle.mt_render.specs.Fading.{loudness, most, AreAlike}
use Rattle.mt_render.specs.Parts.{gives, within}
use Rattle.mt_render.proofs.Fading.{most_from}
use Rattle.mt_render.proofs.Floors.{rounded_same}
use Rattle.mt_render.proofs.Gaining.{inside}
use Rattle.mt_render.proofs.Lanes.{and_nothing, nothing_and}
use Rattle.mt_render.proofs.Rising.{early, late}

-- ---- stretches

in_stretch : (a b f : ℕ) (z : ℤ) → a ≤ f → f < b → within a b f z ≡ z
in_stretch a b f z from to =
    let t : nat_le a f ≡ true = grind (arith, nat_tests) in
    let u : nat_lt f b ≡ true = grind (arith, nat_tests) in
    rw (t, u) refl

before_stretch : (a b f : ℕ) (z : ℤ) → f < a → within a b f z ≡ pos 0
before_stretch a b f z low = let t : nat_le a f ≡ false = grind (arith, nat_tests) in rw t refl

behind_stretch : (a b f : ℕ) (z : ℤ) → b ≤ f → within a b f z ≡ pos 0
behind_stretch a b f z high =
    let u : nat_lt f b ≡ false = grind (arith, nat_tests) in
    elim (cases_Bool (nat_le a f)) [ inl y ↦ rw (y, u) refl | inr n ↦ rw n refl ]

pub three : (x y w u v t : ℤ) → x ≡ u → y ≡ v → w ≡ t → (x +ℤ y) +ℤ w ≡ (u +ℤ v) +ℤ t
three x y w u v t a b c = rw (a, b, c) refl

-- three stretches, end to end
pub thirds : (a b d e f : ℕ) (z : ℤ) → a ≤ b → b ≤ d → d ≤ e → (f < a → z ≡ pos 0) → (e ≤ f → z ≡ pos 0)
    → (within a b f z +ℤ within b d f z) +ℤ within d e f z ≡ z
thirds a b d e f z ab bd de before behind =
    elim (cases_lt f b) [
      | inl low ↦ elim (cases_lt f a) [
        | inl out ↦ three _ _ _ _ _ _ (before_stretch a b f z out) (before_stretch b d f z (omega arith)) (before_stretch d e f z (omega arith)) ∙ sym (before out)
        | inr from ↦
            three _ _ _ _ _ _ (in_stretch a b f z from low) (before_stretch b d f z low) (before_stretch d e f z (omega arith))
            ∙ and_nothing (z +ℤ pos 0) ∙ and_nothing z
      ]
      | inr from ↦ elim (cases_lt f d) [
        | inl low ↦
            three _ _ _ _ _ _ (behind_stretch a b f z from) (in_stretch b d f z from low) (before_stretch d e f z low)
            ∙ and_nothing (pos 0 +ℤ z) ∙ nothing_and z
        | inr last ↦ elim (cases_lt f e) [
          | inl to ↦ three _ _ _ _ _ _ (behind_stretch a b f z from) (behind_stretch b d f z last) (in_stretch d e f z last to) ∙ nothing_and z
          | inr out ↦ three _ _ _ _ _ _ (behind_stretch a b f z from) (behind_stretch b d f z last) (behind_stretch d e f z out) ∙ sym (behind out)
        ]
      ]
    ]

-- ---- a part in one

-- a sample at a level of one pair of fades, and of another that leaves as much
as_loud : (x : ℤ) (num den l m k n : ℕ) → 1 ≤ den → 1 ≤ m → 1 ≤ n → l * n ≡ k * m → rounded (x *ℤ pos (num * l)) (den * m) ≡ rounded (x *ℤ pos (num * k)) (den * n)
as_loud x num den l m k n some one other alike =
    let a : 1 * 1 ≤ den * m = mul-le 1 1 den m some one in
    let b : 1 * 1 ≤ den * n = mul-le 1 1 den n some other in
    let e : (num * den) * (l * n) ≡ (num * den) * (k * m) = ap (λ (y : ℕ). (num * den) * y) alike in
    rounded_same (num * l) (num * k) (den * m) (den * n) x (omega arith) (omega arith) (omega arith)

-- what a part gives in its frames, under another pair of fades that leaves as much there
pub cut_gives : (p : Part) (v : Fades) (from to start end f c : ℕ) → start ≡ max p.start (p.at + from) → end ≡ min p.end (p.at + to) → AreAlike v p.fades from to
    → within start end f (rounded (sample_or_silence p.wave.now (p.offset + (f - p.at)) (min c (channels_of p.wave.now - 1)) *ℤ pos (p.scale.num * loudness v (f - p.at))) (p.scale.den * most v))
    ≡ within (p.at + from) (p.at + to) f (gives f c p)
cut_gives p v from to start end f c first last alike =
    let i = f - p.at in
    let x = sample_or_silence p.wave.now (p.offset + i) (min c (channels_of p.wave.now - 1)) in
    let y = rounded (x *ℤ pos (p.scale.num * loudness v i)) (p.scale.den * most v) in
    let z = gives f c p in
    elim (cases_lt f (p.at + from)) [
      | inl low ↦ before_stretch start end f y (omega arith) ∙ sym (before_stretch (p.at + from) (p.at + to) f z low)
      | inr above ↦ elim (cases_lt f (p.at + to)) [
        | inr high ↦ behind_stretch start end f y (omega arith) ∙ sym (behind_stretch (p.at + from) (p.at + to) f z high)
        | inl below ↦ elim (cases_lt f p.start) [
          | inl low ↦ before_stretch start end f y (omega arith) ∙ sym (in_stretch (p.at + from) (p.at + to) f z above below ∙ early p f c low)
          | inr begun ↦ elim (cases_lt f p.end) [
            | inr high ↦ behind_stretch start end f y (omega arith) ∙ sym (in_stretch (p.at + from) (p.at + to) f z above below ∙ late p f c high)
            | inl ended ↦
                in_stretch start end f y (omega arith) (omega arith)
                ∙ as_loud x p.scale.num p.scale.den (loudness v i) (most v) (loudness p.fades i) (most p.fades) p.scale.den_from (most_from v) (most_from p.fades) (alike i (omega arith) (omega arith))
                ∙ sym (in_stretch (p.at + from) (p.at + to) f z above below ∙ inside p f c begun ended)
          ]
        ]
      ]
    ]

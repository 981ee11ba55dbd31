-- What fades leave of a clip's frames.
use Rattle.std.proofs.Common.{◌≡◌, ℕ, zero, suc, ◌-◌, ◌*◌, ◌^◌, ◌<◌, ◌≤◌, ℤ, pos, ◌*ℤ◌, false, refl, ◌∙◌, ap, arith}
use Rattle.std.specs.Prelude.{◌==◌, min}
use Rattle.std.proofs.lemmas.Bool.Decides.{nat_tests}
use Rattle.std.proofs.lemmas.Nat.{mul-le}
use Rattle.mt_render.specs.declared.fade.Fades.{Fades}
use Rattle.mt_render.specs.Mix.{rounded, level, full}
use Rattle.mt_render.specs.Fading.{loudness, most}

-- ---- how much it is

some_fade : (n : ℕ) → (suc n == 0) ≡ false
some_fade n = grind (arith, nat_tests)

level_most : (fade i : ℕ) → level fade i ≤ full fade
level_most zero i = omega arith
level_most (suc n) i = rw (some_fade n) (omega arith)

full_from : (fade : ℕ) → 1 ≤ full fade
full_from zero = omega arith
full_from (suc n) = rw (some_fade n) (omega arith)

full_to : (fade top : ℕ) → 1 ≤ top → fade ≤ top → full fade ≤ top
full_to zero top some small = some
full_to (suc n) top some small = rw (some_fade n) small

pub loud_most : (v : Fades) (i : ℕ) → loudness v i ≤ most v
loud_most v i = mul-le (level v.fade_in i) (level v.fade_out (v.len - i)) (full v.fade_in) (full v.fade_out) (level_most v.fade_in i) (level_most v.fade_out (v.len - i))

pub both_from : (fade_in fade_out : ℕ) → 1 ≤ full fade_in * full fade_out
both_from fade_in fade_out = mul-le 1 1 (full fade_in) (full fade_out) (full_from fade_in) (full_from fade_out)

pub most_from : (v : Fades) → 1 ≤ most v
most_from v = both_from v.fade_in v.fade_out

pub most_to : (v : Fades) → most v ≤ 2 ^ 40
most_to v = mul-le (full v.fade_in) (full v.fade_out) (2 ^ 20) (2 ^ 20) (full_to v.fade_in (2 ^ 20) (omega arith) v.in_to) (full_to v.fade_out (2 ^ 20) (omega arith) v.out_to)

-- ---- where a fade has ended, or has not begun

behind_rise : (fade n i : ℕ) → min fade n ≤ i → i < n → level fade i ≡ full fade
behind_rise zero n i from to = refl
behind_rise (suc g) n i from to = rw (some_fade g) (omega arith)

before_fall : (fade n i : ℕ) → i < n - min fade n → level fade (n - i) ≡ full fade
before_fall zero n i to = refl
before_fall (suc g) n i to = rw (some_fade g) (omega arith)

-- a fade out that has not begun can be left out
pub rising_alike : (fade_in fade_out n i : ℕ) → i < n - min fade_out n
    → (level fade_in i * level 0 (n - i)) * (full fade_in * full fade_out) ≡ (level fade_in i * level fade_out (n - i)) * (full fade_in * full 0)
rising_alike fade_in fade_out n i to = rw (before_fall fade_out n i to) (omega arith)

-- and a fade in that has ended
pub falling_alike : (fade_in fade_out n i : ℕ) → min fade_in n ≤ i → i < n
    → (level 0 i * level fade_out (n - i)) * (full fade_in * full fade_out) ≡ (level fade_in i * level fade_out (n - i)) * (full 0 * full fade_out)
falling_alike fade_in fade_out n i from to = rw (behind_rise fade_in n i from to) (omega arith)

-- and both
pub even_alike : (fade_in fade_out n i : ℕ) → min fade_in n ≤ i → i < n - min fade_out n
    → (level 0 i * level 0 (n - i)) * (full fade_in * full fade_out) ≡ (level fade_in i * level fade_out (n - i)) * (full 0 * full 0)
even_alike fade_in fade_out n i from to = rw (behind_rise fade_in n i from (omega arith), before_fall fade_out n i to) (omega arith)

-- where there is none, all is left
all_left : (fade_in fade_out i j n : ℕ) → fade_in ≡ 0 → fade_out ≡ 0 → (n ≡ n * (level fade_in i * level fade_out j)) × (n ≡ n * (full fade_in * full fade_out))
all_left fade_in fade_out i j n a b = (rw (a, b) (omega arith), rw (a, b) (omega arith))

pub none_rounded : (v : Fades) (i num den : ℕ) (x : ℤ) → v.fade_in ≡ 0 → v.fade_out ≡ 0 → rounded (x *ℤ pos num) den ≡ rounded (x *ℤ pos (num * loudness v i)) (den * most v)
none_rounded v i num den x a b =
    let over = (all_left v.fade_in v.fade_out i (v.len - i) num a b).0 in
    let under = (all_left v.fade_in v.fade_out i (v.len - i) den a b).1 in
    ap (λ (n : ℕ). rounded (x *ℤ pos n) den) over ∙ ap (λ (n : ℕ). rounded (x *ℤ pos (num * loudness v i)) n) under

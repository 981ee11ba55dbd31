-- Blocks end to end are the samples in order.
use Rattle.std.proofs.Common.{arith, ◌≡◌, ℕ, zero, suc, ◌<◌, ◌≤◌, ◌+◌, ◌*◌, ◌/◌, ◌%◌, List, [], ◌∷◌, ◌++◌, length, take, drop, get_or, ℤ, pos, refl, sym, ap, ap₂, ◌∙◌, append_assoc, length-append}
use Rattle.std.specs.List.{sum_by}
use Rattle.std.proofs.Math.Nat.{suc-mul, mul-le-mul_right, mul-add-mod_self_right, mod-eq_of_lt, div-add-mod, mul_comm}
use Rattle.std.proofs.lemmas.Nat.{div-mul-add}
use Rattle.std.proofs.lemmas.List.{take-append-drop, length-take-le, get_or-take, get_or-drop}
use Rattle.std.proofs.lemmas.List.Sums.{sum_by-cons}
use Rattle.mt_render.specs.Mix.{Programme, mixed_sample}
use Rattle.mt_render.specs.Blocks.{frame_from, samples_from, frames_in, IsBlock, BlocksAreSamples}

next : (a b : ℕ) → a + suc b ≡ suc a + b
next a b = omega arith

-- the samples of one frame
frame_is : (p : Programme) (f c : ℕ) (xs : List ℤ) → ((k : ℕ) → k < length xs → get_or xs k (pos 0) ≡ mixed_sample p f (c + k)) → xs ≡ frame_from p f c (length xs)
unfolding frame_from
frame_is p f c [] each = refl
frame_is p f c (x ∷ xs) each =
    let first : x ≡ mixed_sample p f c = each 0 (omega arith) ∙ ap (mixed_sample p f) (none c) in
    ap₂ (λ (z : ℤ) (zs : List ℤ). z ∷ zs) first (frame_is p f (suc c) xs (λ k lt. each (suc k) (omega arith) ∙ ap (mixed_sample p f) (next c k)))
  where
    none : (n : ℕ) → n + 0 ≡ n
    none n = omega arith

-- those of several, by frame and channel
samples_by : (p : Programme) (n f : ℕ) (xs : List ℤ) → length xs ≡ n * p.layout.channels
    → ((g c : ℕ) → g < n → c < p.layout.channels → get_or xs (g * p.layout.channels + c) (pos 0) ≡ mixed_sample p (f + g) c) → xs ≡ samples_from p f n
unfolding samples_from
samples_by p zero f [] len each = refl
samples_by p zero f (x ∷ xs) len each = absurd (omega arith)
samples_by p (suc n) f xs len each =
    let w = p.layout.channels in
    let all : suc n * w ≡ n * w + w = suc-mul n w in
    let front_length : length (take w xs) ≡ w = length-take-le w xs (omega arith) in
    let back_length : length (drop w xs) ≡ n * w =
    (let sum = sym (length-append (take w xs) (drop w xs)) ∙ ap length (take-append-drop w xs) in omega arith) in
    let front : take w xs ≡ frame_from p f 0 w =
    frame_is p f 0 (take w xs) (λ k lt. get_or-take w xs k (pos 0) (omega arith) ∙ at_first f k (each 0 k (omega arith) (omega arith))) ∙ ap (frame_from p f 0) front_length in
    let back : drop w xs ≡ samples_from p (suc f) n =
    samples_by p n (suc f) (drop w xs) back_length (λ g c in_frames in_frame.
    get_or-drop w xs (g * w + c) (pos 0) ∙ ap (λ (k : ℕ). get_or xs k (pos 0)) (further g w c) ∙ each (suc g) c (omega arith) in_frame ∙ ap (λ (k : ℕ). mixed_sample p k c) (next f g)) in
    sym (take-append-drop w xs) ∙ ap₂ (λ (a b : List ℤ). a ++ b) front back
  where
    further : (g w c : ℕ) → w + (g * w + c) ≡ suc g * w + c
    further g w c = let all = suc-mul g w in omega arith

    at_first : (f k : ℕ) → get_or xs (0 * p.layout.channels + k) (pos 0) ≡ mixed_sample p (f + 0) k → get_or xs k (pos 0) ≡ mixed_sample p f (0 + k)
    at_first f k h =
        let a : 0 * p.layout.channels + k ≡ k = omega arith in
        let b : f + 0 ≡ f = omega arith in
        let c : 0 + k ≡ k = omega arith in
        sym (ap (λ (n : ℕ). get_or xs n (pos 0)) a) ∙ h ∙ ap (λ (n : ℕ). mixed_sample p n k) b ∙ ap (mixed_sample p f) (sym c)

-- the same by their place in the row
samples_are : (p : Programme) (n f : ℕ) (xs : List ℤ) → length xs ≡ n * p.layout.channels
    → ((k : ℕ) → k < length xs → get_or xs k (pos 0) ≡ mixed_sample p (f + k / p.layout.channels) (k % p.layout.channels)) → xs ≡ samples_from p f n
samples_are p n f xs len each =
    samples_by p n f xs len (λ g c in_frames in_frame.
    let w = p.layout.channels in
    each (g * w + c) (within g c in_frames in_frame) ∙ ap (λ (k : ℕ). mixed_sample p (f + k) ((g * w + c) % w)) (div-mul-add g w c in_frame)
    ∙ ap (mixed_sample p (f + g)) (mul-add-mod_self_right g w c ∙ mod-eq_of_lt in_frame))
  where
    within : (g c : ℕ) → g < n → c < p.layout.channels → g * p.layout.channels + c < length xs
    within g c in_frames in_frame =
        let w = p.layout.channels in
        let one : suc g ≤ n = omega arith in
        let most : suc g * w ≤ n * w = mul-le-mul_right w one in
        let all = suc-mul g w in
        omega arith

-- frames after frames
samples_join : (p : Programme) (f m n : ℕ) → samples_from p f m ++ samples_from p (f + m) n ≡ samples_from p f (m + n)
unfolding samples_from
samples_join p f zero n = ap (λ (k : ℕ). samples_from p k n) (none f) ∙ ap (samples_from p f) (nothing n)
  where
    none : (n : ℕ) → n + 0 ≡ n
    none n = omega arith

    nothing : (n : ℕ) → n ≡ 0 + n
    nothing n = omega arith
samples_join p f (suc m) n =
    append_assoc (frame_from p f 0 p.layout.channels) (samples_from p (suc f) m) (samples_from p (f + suc m) n)
    ∙ ap (λ (k : ℕ). frame_from p f 0 p.layout.channels ++ (samples_from p (suc f) m ++ samples_from p k n)) (next f m)
    ∙ ap (λ (l : List ℤ). frame_from p f 0 p.layout.channels ++ l) (samples_join p (suc f) m n)
    ∙ ap (samples_from p f) (one m n)
  where
    one : (m n : ℕ) → suc (m + n) ≡ suc m + n
    one m n = omega arith

-- a block of whole frames
block_is : (p : Programme) (first : ℕ) (block : List ℤ) → IsBlock p first block → block ≡ samples_from p first (frames_in p block)
block_is p first block is =
    let w = p.layout.channels in
    let n = length block / w in
    let parts = div-add-mod (length block) w in
    let whole = is.whole in
    let turned = mul_comm w n in
    let len : length block ≡ n * w = omega (arith, parts, whole, turned) in
    samples_are p n first block len is.filled

pub blocks_are_samples : BlocksAreSamples
unfolding samples_from
blocks_are_samples p first [] some are = refl
blocks_are_samples p first (block ∷ blocks) some are =
    ap₂ (λ (a b : List ℤ). a ++ b) (block_is p first block are.0) (blocks_are_samples p (first + frames_in p block) blocks some are.1)
    ∙ samples_join p first (frames_in p block) (sum_by (frames_in p) blocks)
    ∙ ap (samples_from p first) (sym (sum_by-cons (frames_in p) block blocks))

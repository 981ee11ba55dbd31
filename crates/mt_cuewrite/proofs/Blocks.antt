-- Samples that were filled in a row, and the frames that they are.
use Rattle.std.proofs.Common.{arith, ◌≡◌, ℕ, zero, suc, ◌<◌, ◌≤◌, ◌+◌, ◌*◌, ◌-◌, ◌/◌, ◌%◌, List, [], ◌∷◌, ◌++◌, length, take, drop, get_or, ℤ, pos, refl, sym, ap, ◌∙◌, append_assoc, length-append}
use Rattle.std.specs.List.{flat_map}
use Rattle.std.specs.Int.{w64}
use Rattle.std.proofs.Math.Nat.{suc-mul, mul-le-mul_right, mul-add-mod_self_right, mod-eq_of_lt}
use Rattle.std.proofs.lemmas.Nat.{div-mul-add}
use Rattle.std.proofs.lemmas.Grind.{flat_map-append}
use Rattle.std.proofs.lemmas.List.{take-append-drop, length-take-le, get_or-take, get_or-drop}
use Rattle.byteorder.specs.Endian.{low_bytes}
use Rattle.byteorder.specs.Numbers.{length-bytes_low_first}
use Rattle.mt_render.specs.Mix.{Programme, mixed_sample}
use Rattle.mt_cuewrite.specs.File.{sample, channels_from, frames_from, block_align}
use Rattle.mt_cuewrite.proofs.Sizing.{length-two}

-- ---- samples in a row are frames

next : (a b : ℕ) → a + suc b ≡ suc a + b
next a b = omega arith

channels_are : (p : Programme) (f c : ℕ) (xs : List ℤ) → ((k : ℕ) → k < length xs → get_or xs k (pos 0) ≡ mixed_sample p f (c + k)) → flat_map (sample p.layout.bits) xs ≡ channels_from p f c (length xs)
unfolding channels_from
channels_are p f c [] each = refl
channels_are p f c (x ∷ xs) each =
    let first : x ≡ mixed_sample p f c = each 0 (omega arith) ∙ ap (mixed_sample p f) (none c) in
    ap (λ (z : ℤ). sample p.layout.bits z ++ flat_map (sample p.layout.bits) xs) first
    ∙ ap (λ (l : List ℕ). sample p.layout.bits (mixed_sample p f c) ++ l) (channels_are p f (suc c) xs (λ k lt. each (suc k) (omega arith) ∙ ap (mixed_sample p f) (next c k)))
  where
    none : (n : ℕ) → n + 0 ≡ n
    none n = omega arith

-- the samples of frames by frame and channel
frames_by : (p : Programme) (n f : ℕ) (xs : List ℤ) → length xs ≡ n * p.layout.channels
    → ((g c : ℕ) → g < n → c < p.layout.channels → get_or xs (g * p.layout.channels + c) (pos 0) ≡ mixed_sample p (f + g) c) → flat_map (sample p.layout.bits) xs ≡ frames_from p f n
unfolding frames_from
frames_by p zero f [] len each = refl
frames_by p zero f (x ∷ xs) len each = absurd (omega arith)
frames_by p (suc n) f xs len each =
    let w = p.layout.channels in
    let spell = flat_map (sample p.layout.bits) in
    let all : suc n * w ≡ n * w + w = suc-mul n w in
    let front_length : length (take w xs) ≡ w = length-take-le w xs (omega arith) in
    let back_length : length (drop w xs) ≡ n * w =
    (let sum = sym (length-append (take w xs) (drop w xs)) ∙ ap length (take-append-drop w xs) in omega arith) in
    let front : spell (take w xs) ≡ channels_from p f 0 w =
    channels_are p f 0 (take w xs) (λ k lt. get_or-take w xs k (pos 0) (omega arith) ∙ at_first f k (each 0 k (omega arith) (omega arith))) ∙ ap (channels_from p f 0) front_length in
    let back : spell (drop w xs) ≡ frames_from p (suc f) n =
    frames_by p n (suc f) (drop w xs) back_length (λ g c in_frames in_frame.
    get_or-drop w xs (g * w + c) (pos 0) ∙ ap (λ (k : ℕ). get_or xs k (pos 0)) (further g w c) ∙ each (suc g) c (omega arith) in_frame ∙ ap (λ (k : ℕ). mixed_sample p k c) (next f g)) in
    ap spell (sym (take-append-drop w xs)) ∙ flat_map-append (sample p.layout.bits) (take w xs) (drop w xs) ∙ ap (λ (l : List ℕ). l ++ spell (drop w xs)) front ∙ ap (λ (l : List ℕ). channels_from p f 0 w ++ l) back
  where
    further : (g w c : ℕ) → w + (g * w + c) ≡ suc g * w + c
    further g w c = let all = suc-mul g w in omega arith

    at_first : (f k : ℕ) → get_or xs (0 * p.layout.channels + k) (pos 0) ≡ mixed_sample p (f + 0) k → get_or xs k (pos 0) ≡ mixed_sample p f (0 + k)
    at_first f k h =
        let a : 0 * p.layout.channels + k ≡ k = omega arith in
        let b : f + 0 ≡ f = omega arith in
        let c : 0 + k ≡ k = omega arith in
        sym (ap (λ (n : ℕ). get_or xs n (pos 0)) a) ∙ h ∙ ap (λ (n : ℕ). mixed_sample p n k) b ∙ ap (mixed_sample p f) (sym c)

-- the same by their place in the row
pub frames_are : (p : Programme) (n f : ℕ) (xs : List ℤ) → length xs ≡ n * p.layout.channels
    → ((k : ℕ) → k < length xs → get_or xs k (pos 0) ≡ mixed_sample p (f + k / p.layout.channels) (k % p.layout.channels)) → flat_map (sample p.layout.bits) xs ≡ frames_from p f n
frames_are p n f xs len each =
    frames_by p n f xs len (λ g c in_frames in_frame.
    let w = p.layout.channels in
    each (g * w + c) (within g c in_frames in_frame) ∙ ap (λ (k : ℕ). mixed_sample p (f + k) ((g * w + c) % w)) (div-mul-add g w c in_frame)
    ∙ ap (mixed_sample p (f + g)) (mul-add-mod_self_right g w c ∙ mod-eq_of_lt in_frame))
  where
    within : (g c : ℕ) → g < n → c < p.layout.channels → g * p.layout.channels + c < length xs
    within g c in_frames in_frame =
        let w = p.layout.channels in
        let one : suc g ≤ n = omega arith in
        let most : suc g * w ≤ n * w = mul-le-mul_right w one in
        let all = suc-mul g w in
        omega arith

-- ---- frames after frames

pub frames_join : (p : Programme) (f m n : ℕ) → frames_from p f m ++ frames_from p (f + m) n ≡ frames_from p f (m + n)
unfolding frames_from
frames_join p f zero n = ap (λ (k : ℕ). frames_from p k n) (none f) ∙ ap (frames_from p f) (nothing n)
  where
    none : (n : ℕ) → n + 0 ≡ n
    none n = omega arith

    nothing : (n : ℕ) → n ≡ 0 + n
    nothing n = omega arith
frames_join p f (suc m) n =
    append_assoc (channels_from p f 0 p.layout.channels) (frames_from p (suc f) m) (frames_from p (f + suc m) n)
    ∙ ap (λ (k : ℕ). channels_from p f 0 p.layout.channels ++ (frames_from p (suc f) m ++ frames_from p k n)) (next f m)
    ∙ ap (λ (l : List ℕ). channels_from p f 0 p.layout.channels ++ l) (frames_join p (suc f) m n)
    ∙ ap (frames_from p f) (one m n)
  where
    one : (m n : ℕ) → suc (m + n) ≡ suc m + n
    one m n = omega arith

-- ---- how long they are

length-sample : (bits : ℕ) (z : ℤ) → length (sample bits z) ≡ bits / 8
unfolding sample
length-sample bits z = length-bytes_low_first 0 (bits / 8) (low_bytes w64 (bits / 8) z)

length-channels : (p : Programme) (f c n : ℕ) → length (channels_from p f c n) ≡ n * (p.layout.bits / 8)
unfolding channels_from
length-channels p f c zero = omega arith
length-channels p f c (suc n) =
    let all : suc n * (p.layout.bits / 8) ≡ n * (p.layout.bits / 8) + p.layout.bits / 8 = suc-mul n (p.layout.bits / 8) in
    let sum = length-two (sample p.layout.bits (mixed_sample p f c)) (channels_from p f (suc c) n) (p.layout.bits / 8) (n * (p.layout.bits / 8)) (length-sample p.layout.bits (mixed_sample p f c)) (length-channels p f (suc c) n) in
    omega arith

pub length-frames : (p : Programme) (f n : ℕ) → length (frames_from p f n) ≡ n * block_align p.layout
unfolding frames_from
length-frames p f zero = omega arith
length-frames p f (suc n) =
    let all : suc n * block_align p.layout ≡ n * block_align p.layout + block_align p.layout = suc-mul n (block_align p.layout) in
    let sum = length-two (channels_from p f 0 p.layout.channels) (frames_from p (suc f) n) (block_align p.layout) (n * block_align p.layout) (length-channels p f 0 p.layout.channels) (length-frames p (suc f) n) in
    omega arith

-- ---- what is left behind a block

pub frames_left : (p : Programme) (first count all : ℕ) → first + count ≤ all
    → frames_from p 0 all ≡ frames_from p 0 first ++ (frames_from p first count ++ frames_from p (first + count) (all - (first + count)))
frames_left p first count all within =
    let rest = all - (first + count) in
    let a : frames_from p first count ++ frames_from p (first + count) rest ≡ frames_from p first (count + rest) = frames_join p first count rest in
    let b : frames_from p 0 first ++ frames_from p (0 + first) (count + rest) ≡ frames_from p 0 (first + (count + rest)) = frames_join p 0 first (count + rest) in
    let zero : 0 + first ≡ first = omega arith in
    let sum : first + (count + rest) ≡ all = omega arith in
    sym (ap (λ (l : List ℕ). frames_from p 0 first ++ l) a ∙ ap (λ (n : ℕ). frames_from p 0 first ++ frames_from p n (count + rest)) (sym zero) ∙ b ∙ ap (frames_from p 0) sum)

-- the frames so far, and a block more
pub frames_more : (p : Programme) (first count : ℕ) → frames_from p 0 first ++ frames_from p first count ≡ frames_from p 0 (first + count)
frames_more p first count =
    let zero : first ≡ 0 + first = omega arith in
    ap (λ (n : ℕ). frames_from p 0 first ++ frames_from p n count) zero ∙ frames_join p 0 first count

pub frames_none : (p : Programme) (f : ℕ) → frames_from p f 0 ≡ []
unfolding frames_from
frames_none p f = refl

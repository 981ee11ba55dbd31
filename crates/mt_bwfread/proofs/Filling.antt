-- Samples in a row, and silence behind the last frame.
use Rattle.std.proofs.Common.{◌≡◌, ℕ, zero, suc, ◌+◌, ◌-◌, ◌*◌, ◌/◌, ◌<◌, ◌≤◌, min, true, false, List, length, ◌++◌, length-append, length-drop, drop, ℤ, pos, refl, ◌∙◌, ap, arith, inl, inr}
use Rattle.std.specs.Prelude.{nat_lt}
use Rattle.std.proofs.Math.Nat.{mul-le-mul_right, div-mul-le_self}
use Rattle.std.proofs.lemmas.Bool.{cases_lt}
use Rattle.std.proofs.lemmas.Bool.Decides.{nat_tests}
use Rattle.std.proofs.lemmas.List.{drop-drop, get_or_append_left, get_or-append_right}
use Rattle.mt_bwfread.specs.declared.wave.Wave.TheInside.{Inside}
use Rattle.mt_bwfread.specs.Wave.{scaled, channels_of, frames_of, sample_of, width_of}
use Rattle.mt_bwfread.specs.Fill.{sample_or_silence, at}
use Rattle.mt_bwfread.specs.Kept.{IsKept}
use Rattle.mt_bwfread.proofs.Samples.{IsPlace, sample_place, sample_is}

-- where the first sample stands
pub first_place : (w : Inside) (text : List ℕ) (first channel : ℕ) → IsKept w → w.text.now ≡ text → first < w.frames → channel < channels_of text
    → IsPlace first w.format.channels channel (w.format.bits / 8) (length w.samples.now)
first_place w text first channel kept is begins in_channels =
    let frames : first < frames_of text = rw (← is, ← kept.frames) begins in
    sample_place w text first channel kept is frames in_channels

-- the last of n samples stands within the samples
last_in : (n first channels channel width frames len : ℕ) → first < frames → first + n ≤ frames → channel < channels → frames * (channels * width) ≤ len
    → n * (channels * width) + (first * channels + channel) * width + width ≤ len + channels * width
last_in zero first channels channel width frames len begins within in_channels whole =
    let column : (channel + 1) * width ≤ channels * width = mul-le-mul_right width (omega arith) in
    let next : first * (channels * width) ≤ frames * (channels * width) = mul-le-mul_right (channels * width) (omega arith) in
    omega arith
last_in (suc n) first channels channel width frames len begins within in_channels whole =
    let column : (channel + 1) * width ≤ channels * width = mul-le-mul_right width (omega arith) in
    let all : (first + (n + 1)) * (channels * width) ≤ frames * (channels * width) = mul-le-mul_right (channels * width) (omega arith) in
    omega arith

frames_room : (w : Inside) → IsKept w → w.frames * (w.format.channels * (w.format.bits / 8)) ≤ length w.samples.now
unfolding frames_of width_of
frames_room w kept = rw (kept.frames, kept.channels, kept.bits, kept.samples) (div-mul-le_self _ _)

pub room_for : (w : Inside) (text : List ℕ) (n first channel : ℕ) (bytes : List ℕ) → IsKept w → w.text.now ≡ text → first < w.frames → first + n ≤ w.frames → channel < channels_of text
    → bytes ≡ drop ((first * w.format.channels + channel) * (w.format.bits / 8)) w.samples.now
    → n * (w.format.channels * (w.format.bits / 8)) ≤ length bytes + w.format.channels * (w.format.bits / 8) - w.format.bits / 8
room_for w text n first channel bytes kept is begins within in_channels front =
    let channels : channel < w.format.channels = rw (kept.channels, is) in_channels in
    let place = first_place w text first channel kept is begins in_channels in
    let last = last_in n first w.format.channels channel (w.format.bits / 8) w.frames (length w.samples.now) begins within channels (frames_room w kept) in
    let column : 1 * (w.format.bits / 8) ≤ w.format.channels * (w.format.bits / 8) = mul-le-mul_right (w.format.bits / 8) (omega arith) in
    rw front (simp length-drop (omega (arith, place.end, last, column)))

-- a sample that stands k steps behind the first
pub sample_behind : (w : Inside) (text : List ℕ) (first k channel : ℕ) (bytes : List ℕ) (r : ℤ) → IsKept w → w.text.now ≡ text
    → bytes ≡ drop ((first * w.format.channels + channel) * (w.format.bits / 8)) w.samples.now
    → r ≡ scaled w.format.bits (drop (k * (w.format.channels * (w.format.bits / 8))) bytes) → r ≡ sample_of text (first + k) channel
sample_behind w text first k channel bytes r kept is front value =
    let place : (first * w.format.channels + channel) * (w.format.bits / 8) + k * (w.format.channels * (w.format.bits / 8)) ≡ ((first + k) * w.format.channels + channel) * (w.format.bits / 8) = omega arith in
    sample_is w text (first + k) channel r kept is (value ∙ rw (front, drop-drop) (ap (λ n. scaled w.format.bits (drop n w.samples.now)) place))

-- samples as far as there are frames, and then silence
pub filled : (text : List ℕ) (first channel frames n : ℕ) (xs ys : List ℤ) → frames ≡ frames_of text → first < frames → length xs ≡ min (frames - first) n → length xs + length ys ≡ n
    → ((k : ℕ) → k < length xs → at xs k ≡ sample_of text (first + k) channel) → ((k : ℕ) → k < length ys → at ys k ≡ pos 0)
    → (k : ℕ) → k < length (xs ++ ys) → at (xs ++ ys) k ≡ sample_or_silence text (first + k) channel
filled text first channel frames n xs ys is begins front all sounding silent k within =
    let short : k < length xs + length ys = simp length-append at within in
    elim (cases_lt k (length xs)) [
      | inl low ↦
          let there : nat_lt (first + k) (frames_of text) ≡ true = grind (arith, nat_tests, is, front) in
          get_or_append_left xs ys (pos 0) k low ∙ sounding k low ∙ rw there refl
      | inr from ↦
          let behind : nat_lt (first + k) (frames_of text) ≡ false = grind (arith, nat_tests, is, front, all) in
          get_or-append_right xs ys (length xs) k (pos 0) refl from ∙ silent (k - length xs) (omega arith) ∙ rw behind refl
    ]

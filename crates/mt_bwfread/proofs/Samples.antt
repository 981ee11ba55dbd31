-- A sample stands within the samples.
use Rattle.std.proofs.Common.{◌≡◌, ℕ, ◌+◌, ◌*◌, ◌/◌, ◌<◌, ◌≤◌, true, List, length, drop, ℤ, refl, ◌∙◌, arith, inl, inr}
use Rattle.std.specs.Prelude.{◌==◌}
use Rattle.std.proofs.lemmas.Bool.{cases_Bool, eqb-true}
use Rattle.std.proofs.Math.Nat.{div-mul-le_self, mul-le-mul_right}
use Rattle.mt_bwfread.specs.declared.wave.Wave.TheInside.{Inside}
use Rattle.mt_bwfread.specs.Wave.{is_width, scaled, channels_of, width_of, frames_of, sample_of}
use Rattle.mt_bwfread.specs.Kept.{IsKept}

width_positive : (bits : ℕ) → is_width bits ≡ true → 0 < bits / 8
width_positive bits width =
    elim (cases_Bool (bits == 8)) [
      | inl e ↦ let is = eqb-true bits 8 e in rw is (omega arith)
      | inr n8 ↦ elim (cases_Bool (bits == 16)) [
        | inl e ↦ let is = eqb-true bits 16 e in rw is (omega arith)
        | inr n16 ↦ elim (cases_Bool (bits == 24)) [
          | inl e ↦ let is = eqb-true bits 24 e in rw is (omega arith)
          | inr n24 ↦ let left : (bits == 32) ≡ true = rw (n8, n16, n24) at width in let is = eqb-true bits 32 left in rw is (omega arith)
        ]
      ]
    ]

-- where a sample stands
pub record IsPlace (frame channels channel width len : ℕ) : Type 0 where
  pub row : frame * channels ≤ len
  pub place : frame * channels + channel ≤ len
  pub end : (frame * channels + channel) * width + width ≤ len

place_in : (frame channels channel width len : ℕ) → 0 < width → frame < len / (channels * width) → channel < channels → IsPlace frame channels channel width len
place_in frame channels channel width len positive in_frames in_channels =
    let frames : (frame + 1) * (channels * width) ≤ len / (channels * width) * (channels * width) = mul-le-mul_right (channels * width) (omega arith) in
    let whole = div-mul-le_self len (channels * width) in
    let row : (frame * channels + channel + 1) * width ≤ (frame * channels + channels) * width = mul-le-mul_right width (omega arith) in
    let wide : 1 * (frame * channels + channel) ≤ width * (frame * channels + channel) = mul-le-mul_right (frame * channels + channel) (omega arith) in
    record {
      row = omega arith;
      place = omega arith;
      end = omega arith;
    }

pub sample_place : (w : Inside) (text : List ℕ) (frame channel : ℕ) → IsKept w → w.text.now ≡ text → frame < frames_of text → channel < channels_of text
    → IsPlace frame w.format.channels channel (w.format.bits / 8) (length w.samples.now)
unfolding frames_of width_of
sample_place w text frame channel kept is in_frames in_channels =
    let positive = width_positive w.format.bits kept.width in
    let frames : frame < length w.samples.now / (w.format.channels * (w.format.bits / 8)) = rw (kept.samples, kept.channels, kept.bits, is) in_frames in
    let channels : channel < w.format.channels = rw (kept.channels, is) in_channels in
    place_in frame w.format.channels channel (w.format.bits / 8) (length w.samples.now) positive frames channels

pub sample_is : (w : Inside) (text : List ℕ) (frame channel : ℕ) (r : ℤ) → IsKept w → w.text.now ≡ text
    → r ≡ scaled w.format.bits (drop ((frame * w.format.channels + channel) * (w.format.bits / 8)) w.samples.now)
    → r ≡ sample_of text frame channel
unfolding sample_of width_of
sample_is w text frame channel r kept is value =
    value ∙ rw (kept.samples, kept.channels, kept.bits, is) refl

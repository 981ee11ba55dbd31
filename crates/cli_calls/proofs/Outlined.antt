-- What is told of a wave file by its outline.
use Rattle.std.proofs.Common.{◌≡◌, ℕ, List, [], ◌∷◌, refl, sym, ap, ◌∙◌}
use Rattle.std.specs.Prelude.{Option, Some, Result, Ok, IfSome}
use Rattle.hex.specs.Hex.{encode_lower}
use Rattle.sha2.specs.Sha256.{sha256}
use Rattle.mt_latch.specs.Latch.{Latched}
use Rattle.mt_bwfread.specs.Wave.{IsWave, fault_of, format_of, rate_of, channels_of, bits_of, frames_of}
use Rattle.mt_bwfread.specs.Extension.{bext_of}
use Rattle.mt_bwfread.specs.Cues.{cue_chunk, points_of, entries_of, lengths_of, labels_of, cues_of}
use Rattle.mt_outline.specs.Outline.{Gives, IsOutline, SayTheSame}
use Rattle.mt_outline.specs.declared.outline.Outline.{Outline}
use Rattle.mt_preflight.specs.Files.{recording_of}
use Rattle.cli_calls.specs.declared.fault.CliFault.{CliFault}
use Rattle.cli_calls.specs.declared.file_info.InfoForm.{InfoForm}
use Rattle.cli_calls.specs.Info.{told_text, info_text, OutlineInforms, OutlineInformsBy, InformsBy, GaveOutline}
use Rattle.cli_calls.specs.Laying.{sound_of}
use Rattle.cli_calls.specs.Reading.{GaveBytes}

-- what is told of files that say the same
told_same : (kept text digits : List ℕ) (frames : ℕ) → SayTheSame kept text → told_text digits kept frames ≡ told_text digits text frames
unfolding format_of rate_of channels_of bits_of bext_of cue_chunk points_of entries_of lengths_of labels_of cues_of
told_same kept text digits frames same = rw (same.fmt, same.bext, same.cue, same.lists) refl

module _ {A : Type 0} where
  pub told_outline : (text kept : List ℕ) (o : Outline A) (digits : List ℕ) (frames : ℕ) → IsOutline text o → IsWave text → kept ≡ o.kept.items → digits ≡ encode_lower (sha256 text)
      → frames ≡ frames_of text → told_text digits kept frames ≡ info_text text
  told_outline text kept o digits frames outline wave is ed en =
      rw (is, ed, en) (told_same o.kept.items text (encode_lower (sha256 text)) (frames_of text) (outline.says wave))

  -- the file of an outline is a wave file where what is kept is one
  pub wave_of : (text kept : List ℕ) (o : Outline A) → IsOutline text o → IsWave kept → kept ≡ o.kept.items → IsWave text
  wave_of text kept o outline wave is = sym outline.fault ∙ ap fault_of (sym is) ∙ wave

  pub recording_is : (text kept : List ℕ) (o : Outline A) (d : List ℕ) (rate channels frames : ℕ) → IsOutline text o → IsWave kept → kept ≡ o.kept.items
      → d ≡ sha256 text → rate ≡ rate_of kept → channels ≡ channels_of kept → (IsWave text → frames ≡ frames_of text)
      → Ok (record { digest = record { 0 = d }; rate = rate; channels = channels; frames = frames }) ≡ recording_of text (fault_of text)
  unfolding format_of rate_of channels_of
  recording_is text kept o d rate channels frames outline wave is ed er ec en =
      let all = wave_of text kept o outline wave is in
      let same = outline.says all in
      rw (all, ed, er, ec, en all, is, same.fmt) refl

  pub sound_is : (left : Option (List ℕ)) (kept : List ℕ) (o : Outline A) (d : List ℕ) (rate frames : ℕ) → Gives left o → IsWave kept → kept ≡ o.kept.items
      → ((text : List ℕ) → IsOutline text o → d ≡ sha256 text) → rate ≡ rate_of kept → ((text : List ℕ) → IsOutline text o → IsWave text → frames ≡ frames_of text)
      → (bytes : List ℕ) × ((IfSome left (λ all. bytes ≡ all) × IsWave bytes) × (record { digest = record { 0 = d }; rate = rate; frames = frames } ≡ sound_of bytes))
  unfolding format_of rate_of
  sound_is left kept o d rate frames gives wave is ed er en =
      let text = gives.text in
      let all = wave_of text kept o gives.outline wave is in
      let same = gives.outline.says all in
      (text, ((gives.all, all), rw (ed text gives.outline, er, en text gives.outline all, is, same.fmt) refl))

  -- the rate of the file of an outline is the one that is kept
  pub own_rate : (text kept : List ℕ) (o : Outline A) (rate : ℕ) → IsOutline text o → IsWave text → kept ≡ o.kept.items → rate ≡ rate_of kept → Some rate ≡ Some (rate_of text)
  unfolding format_of rate_of
  own_rate text kept o rate outline wave is er =
      let same = outline.says wave in
      rw (er, is, same.fmt) refl

  -- ---- what is made of a file, by its outline

  -- the text
  pub outline_informs : (kept : List ℕ) (o : Outline A) (d : List ℕ) (frames : ℕ) → IsWave kept → kept ≡ o.kept.items
      → ((text : List ℕ) → IsOutline text o → d ≡ sha256 text) → ((text : List ℕ) → IsOutline text o → IsWave text → frames ≡ frames_of text)
      → OutlineInforms o (Ok (told_text (encode_lower d) kept frames))
  outline_informs kept o d frames wave is ed en = λ text outline.
      let all = wave_of text kept o outline wave is in
      (all, told_outline text kept o (encode_lower d) frames outline all is (ap encode_lower (ed text outline)) (en text outline all))

-- one reader gave the file of an outline: its bytes
pub turned : {R A : Type 0} (remaining : R → Option (List ℕ)) (form : InfoForm) (inputs : List (Latched R)) (o : Outline A) → GaveOutline remaining inputs o
    → (bytes : List ℕ) × (GaveBytes remaining inputs bytes × ((made : Result (List ℕ) CliFault) → OutlineInformsBy form o made → InformsBy form bytes made))
turned remaining form (input ∷ []) o gives = (gives.text, (gives.all, λ made informs. informs gives.text gives.outline))
turned remaining form [] o gives = absurd gives
turned remaining form (input ∷ (other ∷ more)) o gives = absurd gives

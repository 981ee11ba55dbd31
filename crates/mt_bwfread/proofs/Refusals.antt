-- When each refusal comes.
use Rattle.std.proofs.Common.{◌≡◌, ◌↔◌, ℕ, ◌-◌, ◌*◌, ◌/◌, ◌<◌, ◌≤◌, Bool, true, false, cond, List, length, drop, Some, None, refl, sym, ap, subst, ◌∙◌, arith, inl, inr}
use Rattle.std.specs.Prelude.{codes, Option, Result, Ok, Err, OnOk, IsErrOf, nat_lt, not, ◌==◌}
use Rattle.std.specs.Option.{option_or}
use Rattle.std.specs.Str.{bytes_eq}
use Rattle.std.proofs.lemmas.Bool.{cases_Bool, cases_lt, le-leb, lt-leb}
use Rattle.mt_bwfread.specs.declared.fault.WaveFault.{WaveFault}
use Rattle.mt_bwfread.specs.declared.fault.WaveFault.TheVariants.{NotRiff, NotWave, Truncated, NoFmt, BadFmt, Unsupported, NoData}
use Rattle.mt_bwfread.specs.Riff.{Chunk, AreChunks, chunks_of, rest_of, content_of}
use Rattle.mt_bwfread.specs.Wave.{is_riff, is_wave, end_of, body_of, tag_in, channels_in, rate_in, align_in, bits_in, subformat_in, pcm, is_width, numbers_fault, format_fault, samples_fault, contents_fault, fault_in, fault_of, FailsBy, chunks_in}
use Rattle.mt_bwfread.proofs.Splitting.{IsBytes, IsBytes-take, IsBytes-drop, found, are_chunks}

-- ---- what the chunks are refused for

abbrev is_late : WaveFault → Bool
is_late NotRiff = false
is_late NotWave = false
is_late Truncated = false
is_late NoFmt = true
is_late BadFmt = true
is_late Unsupported = true
is_late NoData = true

abbrev IsLate : Option WaveFault → Type 0
IsLate None = Unit {0}
IsLate (Some e) = is_late e ≡ true

late_or : (x y : Option WaveFault) → IsLate x → IsLate y → IsLate (option_or x y)
late_or None y p q = q
late_or (Some e) y p q = p

late_numbers : (a b c d : Bool) → IsLate (cond a (Some Unsupported) (cond b (Some BadFmt) (cond c (Some BadFmt) (cond d None (Some BadFmt)))))
late_numbers true b c d = refl
late_numbers false true c d = refl
late_numbers false false true d = refl
late_numbers false false false true = tt
late_numbers false false false false = refl

numbers_late : (fmt : List ℕ) → IsLate (numbers_fault fmt)
unfolding numbers_fault
numbers_late fmt = late_numbers (not (is_width (bits_in fmt))) (channels_in fmt == 0) (rate_in fmt == 0) (align_in fmt == channels_in fmt * (bits_in fmt / 8))

late_format : (a b c d e : Bool) (x : Option WaveFault) → IsLate x → IsLate (cond a (Some BadFmt) (cond b x (cond c (Some Unsupported) (cond d (Some BadFmt) (cond e x (Some Unsupported))))))
late_format true b c d e x p = refl
late_format false true c d e x p = p
late_format false false true d e x p = refl
late_format false false false true e x p = refl
late_format false false false false true x p = p
late_format false false false false false x p = refl

format_late : (fmt : List ℕ) → IsLate (format_fault fmt)
unfolding format_fault
format_late fmt = late_format (nat_lt (length fmt) 16) (tag_in fmt == 1) (not (tag_in fmt == 0xFFFE)) (nat_lt (length fmt) 40) (bytes_eq (subformat_in fmt) pcm) (numbers_fault fmt) (numbers_late fmt)

samples_late : (samples : Option (List ℕ)) → IsLate (samples_fault samples)
samples_late None = refl
samples_late (Some samples) = tt

contents_late : (fmt samples : Option (List ℕ)) → IsLate (contents_fault fmt samples)
contents_late None samples = refl
contents_late (Some fmt) samples = late_or (format_fault fmt) (samples_fault samples) (format_late fmt) (samples_late samples)

late : (cs : List Chunk) → IsLate (fault_in cs)
unfolding fault_in
late cs = contents_late (content_of (codes "fmt ") cs) (content_of (codes "data") cs)

-- ---- the first three refusals

pub IsBytes-body : (text : List ℕ) → IsBytes text → IsBytes (body_of text)
unfolding body_of
IsBytes-body text fits = IsBytes-take (end_of text - 12) (drop 12 text) (IsBytes-drop 12 text fits)

some_is : (a b : WaveFault) → Some a ≡ Some b → a ≡ b
some_is a b e = cc

not_riff_then : (text : List ℕ) → is_riff text ≡ false → fault_of text ≡ Some NotRiff
unfolding fault_of
not_riff_then text riff = rw riff refl

not_wave_then : (text : List ℕ) → is_riff text ≡ true → is_wave text ≡ false → fault_of text ≡ Some NotWave
unfolding fault_of
not_wave_then text riff wave = rw (riff, wave) refl

truncated_then : (text : List ℕ) → is_riff text ≡ true → is_wave text ≡ true → 8 ≤ length (rest_of (body_of text)) → fault_of text ≡ Some Truncated
unfolding fault_of
truncated_then text riff wave long = rw (riff, wave, le-leb 8 (length (rest_of (body_of text))) long) refl

chunks_then : (text : List ℕ) → is_riff text ≡ true → is_wave text ≡ true → length (rest_of (body_of text)) < 8 → fault_of text ≡ fault_in (chunks_of (body_of text))
unfolding fault_of
chunks_then text riff wave short = rw (riff, wave, lt-leb 8 (length (rest_of (body_of text))) short) refl

-- what comes from the chunks is none of the first three
late_fault : (text : List ℕ) (e : WaveFault) → is_riff text ≡ true → is_wave text ≡ true → length (rest_of (body_of text)) < 8 → fault_of text ≡ Some e → is_late e ≡ true
late_fault text e riff wave short is = subst IsLate (sym (chunks_then text riff wave short) ∙ is) (late (chunks_of (body_of text)))

-- one of the four ways
data Way (text : List ℕ) : Type 0 where
  at_riff : is_riff text ≡ false → Way text
  at_wave : is_riff text ≡ true → is_wave text ≡ false → Way text
  at_chunk : is_riff text ≡ true → is_wave text ≡ true → 8 ≤ length (rest_of (body_of text)) → Way text
  in_chunks : is_riff text ≡ true → is_wave text ≡ true → length (rest_of (body_of text)) < 8 → Way text

way : (text : List ℕ) → Way text
way text =
    elim (cases_Bool (is_riff text)) [
      | inl riff ↦ elim (cases_Bool (is_wave text)) [
        | inl wave ↦ elim (cases_lt (length (rest_of (body_of text))) 8) [
          | inl short ↦ in_chunks riff wave short
          | inr long ↦ at_chunk riff wave long
        ]
        | inr wave ↦ at_wave riff wave
      ]
      | inr riff ↦ at_riff riff
    ]

not_riff_by : (text : List ℕ) → Way text → fault_of text ≡ Some NotRiff → is_riff text ≡ false
not_riff_by text (at_riff riff) is = riff
not_riff_by text (at_wave riff wave) is = let no = some_is NotRiff NotWave (sym is ∙ not_wave_then text riff wave) in absurd cc
not_riff_by text (at_chunk riff wave long) is = let no = some_is NotRiff Truncated (sym is ∙ truncated_then text riff wave long) in absurd cc
not_riff_by text (in_chunks riff wave short) is = let no = late_fault text NotRiff riff wave short is in absurd cc

not_wave_by : (text : List ℕ) → Way text → fault_of text ≡ Some NotWave → (is_riff text ≡ true) × (is_wave text ≡ false)
not_wave_by text (at_riff riff) is = let no = some_is NotWave NotRiff (sym is ∙ not_riff_then text riff) in absurd cc
not_wave_by text (at_wave riff wave) is = (riff, wave)
not_wave_by text (at_chunk riff wave long) is = let no = some_is NotWave Truncated (sym is ∙ truncated_then text riff wave long) in absurd cc
not_wave_by text (in_chunks riff wave short) is = let no = late_fault text NotWave riff wave short is in absurd cc

record IsLong (text : List ℕ) : Type 0 where
  riff : is_riff text ≡ true
  wave : is_wave text ≡ true
  long : 8 ≤ length (rest_of (body_of text))

truncated_by : (text : List ℕ) → Way text → fault_of text ≡ Some Truncated → IsLong text
truncated_by text (at_riff riff) is = let no = some_is Truncated NotRiff (sym is ∙ not_riff_then text riff) in absurd cc
truncated_by text (at_wave riff wave) is = let no = some_is Truncated NotWave (sym is ∙ not_wave_then text riff wave) in absurd cc
truncated_by text (at_chunk riff wave long) is = record { riff = riff; wave = wave; long = long }
truncated_by text (in_chunks riff wave short) is = let no = late_fault text Truncated riff wave short is in absurd cc

-- an error is the fault
fault_is : (r : Result (List ℕ) WaveFault) (fault : Option WaveFault) (e : WaveFault) → FailsBy r fault → r ≡ Err e → fault ≡ Some e
fault_is (Ok x) fault e fails is = absurd cc
fault_is (Err d) fault e fails is = let same : d ≡ e = cc in rw (← same) fails

error_is : (r : Result (List ℕ) WaveFault) (fault : Option WaveFault) (e : WaveFault) → FailsBy r fault → fault ≡ Some e → r ≡ Err e
error_is (Ok x) fault e fails is = absurd cc
error_is (Err d) fault e fails is = let same : d ≡ e = some_is d e (sym fails ∙ is) in ap (λ (f : WaveFault). Err f) same

-- ---- the clauses of `read`

pub not_riff : (text : List ℕ) (r : Result (List ℕ) WaveFault) → FailsBy r (fault_of text) → IsErrOf r NotRiff ↔ (is_riff text ≡ false)
not_riff text r fails = (λ is. not_riff_by text (way text) (fault_is r (fault_of text) NotRiff fails is), λ riff. error_is r (fault_of text) NotRiff fails (not_riff_then text riff))

pub not_wave : (text : List ℕ) (r : Result (List ℕ) WaveFault) → FailsBy r (fault_of text) → IsErrOf r NotWave ↔ ((is_riff text ≡ true) × (is_wave text ≡ false))
not_wave text r fails = (λ is. not_wave_by text (way text) (fault_is r (fault_of text) NotWave fails is), λ h. error_is r (fault_of text) NotWave fails (not_wave_then text h.0 h.1))

-- no list of chunks is in the body
abbrev IsCut : List ℕ → Type 0
IsCut text = (is_riff text ≡ true) × (is_wave text ≡ true) × ((cs : List Chunk) → AreChunks (body_of text) cs → ⊥)

cut_by : (text : List ℕ) → IsLong text → IsCut text
cut_by text long = (long.riff, long.wave, λ cs chunks. let short = (found (body_of text) cs chunks).1 in let far = long.long in omega arith)

cut_then : (text : List ℕ) → IsBytes text → IsCut text → fault_of text ≡ Some Truncated
cut_then text fits cut =
    elim (cases_lt (length (rest_of (body_of text))) 8) [
      | inl short ↦ absurd (cut.2 (chunks_of (body_of text)) (are_chunks (body_of text) (IsBytes-body text fits) short))
      | inr long ↦ truncated_then text cut.0 cut.1 long
    ]

pub truncated : (text : List ℕ) (r : Result (List ℕ) WaveFault) → IsBytes text → FailsBy r (fault_of text) → IsErrOf r Truncated ↔ IsCut text
truncated text r fits fails = (λ is. cut_by text (truncated_by text (way text) (fault_is r (fault_of text) Truncated fails is)), λ cut. error_is r (fault_of text) Truncated fails (cut_then text fits cut))

pub by_chunks : (text : List ℕ) (r : Result (List ℕ) WaveFault) → FailsBy r (fault_of text) → (cs : List Chunk) → is_riff text ≡ true → is_wave text ≡ true → AreChunks (body_of text) cs → FailsBy r (fault_in cs)
by_chunks text r fails cs riff wave chunks =
    let one = found (body_of text) cs chunks in
    subst (λ (f : Option WaveFault). FailsBy r f) (chunks_then text riff wave one.1 ∙ ap fault_in one.0) fails

whole_by : (text : List ℕ) → Way text → fault_of text ≡ None → length (rest_of (body_of text)) < 8
whole_by text (at_riff riff) is = let no = sym (not_riff_then text riff) ∙ is in absurd cc
whole_by text (at_wave riff wave) is = let no = sym (not_wave_then text riff wave) ∙ is in absurd cc
whole_by text (at_chunk riff wave long) is = let no = sym (truncated_then text riff wave long) ∙ is in absurd cc
whole_by text (in_chunks riff wave short) is = short

pub whole : (text : List ℕ) (r : Result (List ℕ) WaveFault) → IsBytes text → FailsBy r (fault_of text) → OnOk r (AreChunks (body_of text) (chunks_in text))
unfolding chunks_in
whole text (Ok x) fits fails = are_chunks (body_of text) (IsBytes-body text fits) (whole_by text (way text) fails)
whole text (Err e) fits fails = tt

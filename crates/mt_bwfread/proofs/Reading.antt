-- From the parts that were found to the wave file.
use Rattle.std.proofs.Common.{◌≡◌, ℕ, ◌*◌, ◌/◌, ◌^◌, ◌<◌, ◌≤◌, Bool, true, false, cond, List, [], ◌∷◌, length, drop, Bor, Some, None, refl, sym, ap, subst, ◌∙◌, arith}
use Rattle.std.specs.Prelude.{codes, unwrap_or, Option, Ok}
use Rattle.std.specs.Option.{option_copied}
use Rattle.std.proofs.lemmas.Bool.{le-leb, lt-leb}
use Rattle.mt_bwfread.specs.declared.fault.WaveFault.{WaveFault}
use Rattle.mt_bwfread.specs.declared.fault.WaveFault.TheVariants.{Truncated}
use Rattle.mt_bwfread.specs.declared.found.Found.{Found}
use Rattle.mt_bwfread.specs.declared.wave.Wave.TheInside.{Inside}
use Rattle.std.specs.Str.{bytes_eq}
use Rattle.std.proofs.Math.Nat.{div-le_self}
use Rattle.mt_bwfread.specs.Riff.{Chunk, Splits, after_pad, chunks_of, rest_of, content_of}
use Rattle.mt_bwfread.proofs.Splitting.{IsBytes, splits}
use Rattle.mt_bwfread.proofs.Refusals.{IsBytes-body, whole}
use Rattle.mt_bwfread.specs.Wave.{is_riff, is_wave, body_of, contents_fault, fault_in, fault_of, IsWave, chunks_in, format_of, samples_of, rate_in, channels_in, bits_in, rate_of, channels_of, bits_of, width_of, frames_of}
use Rattle.mt_bwfread.specs.Cues.{cue_chunk, point_count}
use Rattle.mt_bwfread.specs.Parts.{AreFirsts, AreContents}
use Rattle.mt_bwfread.specs.Kept.{IsKept}

-- the text begins as a wave file, and its chunks stand in the body
pub record IsOpened (text body : List ℕ) : Type 0 where
  pub riff : is_riff text ≡ true
  pub wave : is_wave text ≡ true
  pub rest : body ≡ body_of text

pub truncated_at : (text body : List ℕ) (e : WaveFault) → IsOpened text body → 8 ≤ length (rest_of body) → e ≡ Truncated → fault_of text ≡ Some e
unfolding fault_of
truncated_at text body e opened long is =
    let long_body : 8 ≤ length (rest_of (body_of text)) = rw (← opened.rest) long in
    rw (opened.riff, opened.wave, le-leb 8 (length (rest_of (body_of text))) long_body, is) refl

pub fault_at : (text body : List ℕ) (f : Found) (fault : Option WaveFault) → IsOpened text body → length (rest_of body) < 8 → AreFirsts f (chunks_of body) → contents_fault (option_copied f.fmt) (option_copied f.samples) ≡ fault → fault_of text ≡ fault
unfolding fault_of fault_in
fault_at text body f fault opened short firsts is =
    let short_body : length (rest_of (body_of text)) < 8 = rw (← opened.rest) short in
    let found : contents_fault (option_copied f.fmt) (option_copied f.samples) ≡ fault_in (chunks_of (body_of text)) = rw (firsts.fmt, firsts.samples, opened.rest) refl in
    rw (opened.riff, opened.wave, lt-leb 8 (length (rest_of (body_of text))) short_body) (sym found ∙ is)

pub now_or_nil : (o : Option (Bor (List ℕ))) (d r : Bor (List ℕ)) → d.now ≡ [] → r ≡ unwrap_or o d → r.now ≡ unwrap_or (option_copied o) []
now_or_nil None d r nil is = rw is nil
now_or_nil (Some x) d r nil is = rw is refl

-- ---- the length of a chunk's content is a number of four bytes

small_or : (b : Bool) (x : List ℕ) (more : Option (List ℕ)) → length x < 2 ^ 32 → length (unwrap_or more []) < 2 ^ 32 → length (unwrap_or (cond b (Some x) more) []) < 2 ^ 32
small_or true x more here there = here
small_or false x more here there = there

content_small : (id bytes : List ℕ) (cs : List Chunk) (rest : List ℕ) → Splits bytes cs rest → length (unwrap_or (content_of id cs) []) < 2 ^ 32
unfolding content_of
content_small id bytes [] rest split = omega arith
content_small id bytes (c ∷ cs) rest split =
    small_or (bytes_eq c.id id) c.content (content_of id cs) split.1.0.size (content_small id (after_pad c split.0) cs rest split.1.1)

div_small : (n d : ℕ) → n < 2 ^ 32 → n / d < 2 ^ 32
div_small n d small = let less = div-le_self n d in omega arith

-- what a wave file keeps
pub is_kept : (w : Inside) (f : Found) → IsBytes w.text.now → IsWave w.text.now → w.body.now ≡ body_of w.text.now → AreFirsts f (chunks_of w.body.now) → AreContents f w.format w.samples.now
    → w.frames ≡ length w.samples.now / (w.format.channels * (w.format.bits / 8)) → option_copied w.bext ≡ option_copied f.bext
    → w.points.now ≡ drop 4 (unwrap_or (option_copied f.cue) []) → w.point_count ≡ point_count (unwrap_or (option_copied f.cue) []) → IsKept w
unfolding chunks_in format_of samples_of rate_of channels_of bits_of width_of frames_of cue_chunk
is_kept w f text_fits wave body firsts contents frames bext points count =
    let same_chunks : chunks_of w.body.now ≡ chunks_in w.text.now = ap chunks_of body in
    let fmt : unwrap_or (option_copied f.fmt) [] ≡ format_of w.text.now = ap (λ (o : Option (List ℕ)). unwrap_or o []) firsts.fmt ∙ ap (λ (cs : List Chunk). unwrap_or (content_of (codes "fmt ") cs) []) same_chunks in
    let samples : w.samples.now ≡ samples_of w.text.now = contents.samples ∙ ap (λ (o : Option (List ℕ)). unwrap_or o []) firsts.samples ∙ ap (λ (cs : List Chunk). unwrap_or (content_of (codes "data") cs) []) same_chunks in
    let cue : unwrap_or (option_copied f.cue) [] ≡ cue_chunk w.text.now = ap (λ (o : Option (List ℕ)). unwrap_or o []) firsts.cue ∙ ap (λ (cs : List Chunk). unwrap_or (content_of (codes "cue ") cs) []) same_chunks in
    let rate : w.format.rate ≡ rate_of w.text.now = contents.numbers.rate ∙ ap rate_in fmt in
    let channels : w.format.channels ≡ channels_of w.text.now = contents.numbers.channels ∙ ap channels_in fmt in
    let bits : w.format.bits ≡ bits_of w.text.now = contents.numbers.bits ∙ ap bits_in fmt in
    let counted : length w.samples.now / (w.format.channels * (w.format.bits / 8)) ≡ frames_of w.text.now = rw (samples, channels, bits) refl in
    let fits : IsBytes w.body.now = subst IsBytes (sym body) (IsBytes-body w.text.now text_fits) in
    let bytes : length (unwrap_or (content_of (codes "data") (chunks_of w.body.now)) []) < 2 ^ 32 = content_small (codes "data") w.body.now (chunks_of w.body.now) (rest_of w.body.now) (splits w.body.now fits).0 in
    let small : length w.samples.now < 2 ^ 32 = rw (contents.samples, firsts.samples) bytes in
    record {
      wave = wave;
      chunks = whole w.text.now (Ok w.text.now) text_fits wave;
      body = body;
      rate = rate;
      channels = channels;
      bits = bits;
      rate_positive = contents.numbers.rate_positive;
      channels_positive = contents.numbers.channels_positive;
      width = contents.numbers.width;
      samples = samples;
      frames = frames ∙ counted;
      frames_small = rw frames (div_small (length w.samples.now) (w.format.channels * (w.format.bits / 8)) small);
      bext = bext ∙ firsts.bext ∙ ap (content_of (codes "bext")) same_chunks;
      points = points ∙ ap (drop 4) cue;
      point_count = count ∙ ap point_count cue;
    }

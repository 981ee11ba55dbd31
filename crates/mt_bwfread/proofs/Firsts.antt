-- The first chunk of each id, as a walk finds it.
use Rattle.std.proofs.Common.{◌≡◌, ℕ, Bool, true, false, cond, List, [], ◌∷◌, Option, Some, None, refl, sym, subst, ◌∙◌}
use Rattle.std.specs.Prelude.{codes}
use Rattle.std.specs.Option.{option_copied, option_or}
use Rattle.std.specs.Str.{bytes_eq}
use Rattle.mt_bwfread.specs.declared.found.Found.{Found}
use Rattle.mt_bwfread.specs.declared.riff.Part.{Part}
use Rattle.mt_bwfread.specs.Riff.{Chunk, has_chunk, first_chunk, after_chunk, chunks_of, content_of}
use Rattle.mt_bwfread.specs.Parts.{chunk_at, IsFirstPart, AreFirsts, AreFirstsWith}
use Rattle.mt_bwfread.proofs.Chunks.{chunks_step, chunks_stop}

-- what was found, and else what is still to come, is the first of all
abbrev pub FirstSoFar : List ℕ → Option (List ℕ) → List Chunk → List Chunk → Type 0
FirstSoFar id seen left all = option_or seen (content_of id left) ≡ content_of id all

pub record AreFirstSoFar (f : Found) (left all : List Chunk) : Type 0 where
  pub fmt : FirstSoFar (codes "fmt ") (option_copied f.fmt) left all
  pub samples : FirstSoFar (codes "data") (option_copied f.samples) left all
  pub bext : FirstSoFar (codes "bext") (option_copied f.bext) left all
  pub cue : FirstSoFar (codes "cue ") (option_copied f.cue) left all

regroup : (seen : Option (List ℕ)) (b : Bool) (x : List ℕ) (more : Option (List ℕ)) → option_or (option_or seen (cond b (Some x) None)) more ≡ option_or seen (cond b (Some x) more)
regroup None true x more = refl
regroup None false x more = refl
regroup (Some y) b x more = refl

one_more : (id : List ℕ) (seen now : Option (List ℕ)) (c : Chunk) (left all : List Chunk) → now ≡ option_or seen (content_of id (c ∷ [])) → FirstSoFar id seen (c ∷ left) all → FirstSoFar id now left all
unfolding content_of
one_more id seen now c left all is so_far = rw is (regroup seen (bytes_eq c.id id) c.content (content_of id left) ∙ so_far)

goes_on : (old new : Found) (c : Chunk) (left all : List Chunk) → AreFirstsWith old c new → AreFirstSoFar old (c ∷ left) all → AreFirstSoFar new left all
goes_on old new c left all with_c so_far = record {
  fmt = one_more (codes "fmt ") (option_copied old.fmt) (option_copied new.fmt) c left all with_c.fmt so_far.fmt;
  samples = one_more (codes "data") (option_copied old.samples) (option_copied new.samples) c left all with_c.samples so_far.samples;
  bext = one_more (codes "bext") (option_copied old.bext) (option_copied new.bext) c left all with_c.bext so_far.bext;
  cue = one_more (codes "cue ") (option_copied old.cue) (option_copied new.cue) c left all with_c.cue so_far.cue;
}

pub next_firsts : (old new : Found) (bytes : List ℕ) (p : Part) (all : List Chunk) → IsFirstPart bytes p → AreFirstsWith old (chunk_at p) new → AreFirstSoFar old (chunks_of bytes) all → AreFirstSoFar new (chunks_of p.after.now) all
next_firsts old new bytes p all part with_p so_far =
    let step = chunks_step bytes part.whole in
    let with_c = subst (λ (c : Chunk). AreFirstsWith old c new) part.chunk with_p in
    let before = subst (λ (cs : List Chunk). AreFirstSoFar old cs all) step so_far in
    subst (λ (b : List ℕ). AreFirstSoFar new (chunks_of b) all) (sym part.after) (goes_on old new (first_chunk bytes) (chunks_of (after_chunk bytes)) all with_c before)

at_end : (id : List ℕ) (seen : Option (List ℕ)) (all : List Chunk) → FirstSoFar id seen [] all → seen ≡ content_of id all
unfolding content_of
at_end id None all so_far = so_far
at_end id (Some x) all so_far = so_far

pub all_firsts : (f : Found) (bytes : List ℕ) (all : List Chunk) → has_chunk bytes ≡ false → AreFirstSoFar f (chunks_of bytes) all → AreFirsts f all
all_firsts f bytes all none so_far =
    let over = subst (λ (cs : List Chunk). AreFirstSoFar f cs all) (chunks_stop bytes none) so_far in
    record {
      fmt = at_end (codes "fmt ") (option_copied f.fmt) all over.fmt;
      samples = at_end (codes "data") (option_copied f.samples) all over.samples;
      bext = at_end (codes "bext") (option_copied f.bext) all over.bext;
      cue = at_end (codes "cue ") (option_copied f.cue) all over.cue;
    }

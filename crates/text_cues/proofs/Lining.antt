-- The lines of cue points, one after another.
use Rattle.std.proofs.Common.{◌≡◌, ℕ, ◌+◌, ◌<◌, List, ◌∷◌, ◌++◌, length, get_or, drop, map}
use Rattle.std.proofs.Common.{refl, sym, ap, ◌∙◌, arith, append_assoc}
use Rattle.std.specs.Prelude.{Option, Some, None, Ok, Err}
use Rattle.std.proofs.lemmas.List.{drop_more, length-map, get_or-map}
use Rattle.mt_bwfread.specs.Cues.{CueText}
use Rattle.text_cues.specs.declared.fault.CuesFault.{CuesFault}
use Rattle.text_cues.specs.declared.fault.CuesFault.TheVariants.{Memory, RateDiffers, TooLong}
use Rattle.text_cues.specs.declared.fault.CuesFault.TheVariants.{TooManyLines}
use Rattle.text_cues.specs.Title.{title_of}
use Rattle.text_cues.specs.Marker.{marker_lines, line_count}
use Rattle.text_cues.specs.CueLines.{Made, length_of, label_of, cue_fault, before, unless_at_fault, lines_from, IsCause}

-- what refuses the lines is a cause of that
pub caused : (made : Made) (fault : CuesFault) → made ≡ Err fault → IsCause made fault
caused made Memory is = tt
caused made RateDiffers is = is
caused made (TooLong index) is = is
caused made TooManyLines is = is

two_before : (a b : List ℕ) (made : Made) → before a (before b made) ≡ before (a ++ b) made
two_before a b (Ok made) = ap (λ (t : List ℕ). Ok (record { text = t; next = made.next })) (sym (append_assoc a b made.text))
two_before a b (Err fault) = refl

module _ {X : Type 0} (f : X → CueText) (xs : List X) (d : X) (at index line position : ℕ) (old : List ℕ) (made : Made)
    (below : index < length xs) (placed : position ≡ at + (f (get_or xs index d)).at)
    (had : before old (lines_from index line at (drop index (map f xs))) ≡ made) where
  abbrev c : CueText
  c = f (get_or xs index d)

  abbrev lines : List ℕ
  lines = marker_lines line position (length_of c) (title_of (label_of c))

  abbrev rest : Made
  rest = lines_from (index + 1) (line + line_count (length_of c)) at (drop (index + 1) (map f xs))

  left : drop index (map f xs) ≡ c ∷ drop (index + 1) (map f xs)
  left =
      let within : index < length (map f xs) = omega (arith, below, length-map xs f) in
      drop_more (map f xs) index (f d) within ∙ ap (λ (x : CueText). x ∷ drop (index + 1) (map f xs)) (get_or-map f xs index d (f d) below)

  now : before old (unless_at_fault (cue_fault index line position) lines rest) ≡ made
  now =
      ap (λ (p : ℕ). before old (unless_at_fault (cue_fault index line p) (marker_lines line p (length_of c) (title_of (label_of c))) rest)) placed
      ∙ ap (λ (cs : List CueText). before old (lines_from index line at cs)) (sym left) ∙ had

  -- one cue point more
  pub lined_more : (new : List ℕ) (next : ℕ) → None ≡ cue_fault index line position → new ≡ old ++ lines
      → next ≡ line + line_count (length_of c)
      → before new (lines_from (index + 1) next at (drop (index + 1) (map f xs))) ≡ made
  lined_more new next none step is =
      (λ i. before (step i) (lines_from (index + 1) (is i) at (drop (index + 1) (map f xs))))
      ∙ sym (two_before old lines rest)
      ∙ ap (λ (o : Option CuesFault). before old (unless_at_fault o lines rest)) none
      ∙ now

  -- the first that has no lines
  pub lined_fault : (fault : CuesFault) → Some fault ≡ cue_fault index line position → made ≡ Err fault
  lined_fault fault is = sym now ∙ ap (λ (o : Option CuesFault). before old (unless_at_fault o lines rest)) (sym is)

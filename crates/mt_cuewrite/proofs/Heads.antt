-- The lengths of a head's texts.
use Rattle.std.proofs.Common.{arith, ◌≡◌, ℕ, zero, suc, ◌<◌, ◌≤◌, ◌+◌, Bool, true, false, List, [], ◌∷◌, length, drop, slice_index_or, refl, sym, ap, ◌∙◌, inl, inr}
use Rattle.std.specs.Prelude.{not, ◌&&◌, nat_le, if◌then◌else◌, codes, Option, Some, None}
use Rattle.std.specs.List.{list_all}
use Rattle.std.proofs.lemmas.Bool.{leb-true, cases_Bool}
use Rattle.std.proofs.lemmas.List.{drop_all}
use Rattle.mt_cuewrite.specs.Head.{HeadText, is_printing, is_text, is_form, is_form_byte, bad_text}

-- a text that is none of the bad ones, and what is said of the others
good_text : (b : Bool) (n : ℕ) (rest : Option ℕ) → (if not b then Some n else rest) ≡ None → (b ≡ true) × (rest ≡ None)
good_text true n rest is = (refl, is)
good_text false n rest is = cc is

both_true : (a b : Bool) → (a && b) ≡ true → (a ≡ true) × (b ≡ true)
both_true true b is = (refl, is)
both_true false b is = cc is

text_within : (size : ℕ) (text : List ℕ) → is_text size text ≡ true → length text ≤ size
text_within size text is = leb-true (length text) size (both_true (nat_le (length text) size) (list_all is_printing text) is).0

pub length_of_form : (form text : List ℕ) → is_form form text ≡ true → length text ≡ length form
length_of_form [] [] is = refl
length_of_form [] (b ∷ text) is = cc is
length_of_form (f ∷ form) [] is = cc is
length_of_form (f ∷ form) (b ∷ text) is = ap suc (length_of_form form text (both_true (is_form_byte f b) (is_form form text) is).1)

-- the texts that are taken, one after another
record AreGood (h : HeadText) : Type 0 where
  pub description : is_text 256 h.description ≡ true
  pub originator : is_text 32 h.originator ≡ true
  pub reference : is_text 32 h.reference ≡ true
  pub date : is_form (codes "dddd-dd-dd") h.date ≡ true
  pub time : is_form (codes "dd:dd:dd") h.time ≡ true

all_good : (h : HeadText) → bad_text h ≡ None → AreGood h
all_good h none =
    let a = good_text (is_text 256 h.description) 1 _ none in
    let b = good_text (is_text 32 h.originator) 2 _ a.1 in
    let c = good_text (is_text 32 h.reference) 3 _ b.1 in
    let d = good_text (is_form (codes "dddd-dd-dd") h.date) 4 _ c.1 in
    let e = good_text (is_form (codes "dd:dd:dd") h.time) 5 _ d.1 in
    record { description = a.0; originator = b.0; reference = c.0; date = d.0; time = e.0 }

pub description_within : (h : HeadText) → bad_text h ≡ None → length h.description ≤ 256
description_within h none = text_within 256 h.description (all_good h none).description

pub originator_within : (h : HeadText) → bad_text h ≡ None → length h.originator ≤ 32
originator_within h none = text_within 32 h.originator (all_good h none).originator

pub reference_within : (h : HeadText) → bad_text h ≡ None → length h.reference ≤ 32
reference_within h none = text_within 32 h.reference (all_good h none).reference

pub length-date : (h : HeadText) → bad_text h ≡ None → length h.date ≡ 10
length-date h none = length_of_form (codes "dddd-dd-dd") h.date (all_good h none).date

pub length-time : (h : HeadText) → bad_text h ≡ None → length h.time ≡ 8
length-time h none = length_of_form (codes "dd:dd:dd") h.time (all_good h none).time

-- ---- of a form, byte by byte

pub form_of_other_length : (form text : List ℕ) → (length form ≡ length text → ⊥) → false ≡ is_form form text
form_of_other_length form text other = elim (cases_Bool (is_form form text)) [
  | inl same ↦ absurd (other (sym (length_of_form form text same)))
  | inr differs ↦ sym differs
]

form_step : (form text : List ℕ) (i : ℕ) → length form ≡ length text → i < length form
    → is_form (drop i form) (drop i text) ≡ (is_form_byte (slice_index_or form i 0) (slice_index_or text i 0) && is_form (drop (suc i) form) (drop (suc i) text))
form_step [] text i same lt = absurd (omega arith)
form_step (f ∷ form) [] i same lt = absurd (omega arith)
form_step (f ∷ form) (b ∷ text) zero same lt = refl
form_step (f ∷ form) (b ∷ text) (suc i) same lt = form_step form text i (omega arith) (omega arith)

next : (i : ℕ) → suc i ≡ i + 1
next i = omega arith

-- the bytes at a place are of the form, and so is what follows
pub form_goes_on : (form text : List ℕ) (i : ℕ) → length form ≡ length text → i < length form → is_form_byte (slice_index_or form i 0) (slice_index_or text i 0) ≡ true
    → is_form form text ≡ is_form (drop i form) (drop i text) → is_form form text ≡ is_form (drop (i + 1) form) (drop (i + 1) text)
form_goes_on form text i same lt fits so_far =
    so_far ∙ form_step form text i same lt ∙ ap (λ (b : Bool). b && is_form (drop (suc i) form) (drop (suc i) text)) fits ∙ ap (λ (n : ℕ). is_form (drop n form) (drop n text)) (next i)

-- the bytes at a place are not
pub form_ends : (form text : List ℕ) (i : ℕ) → length form ≡ length text → i < length form → is_form_byte (slice_index_or form i 0) (slice_index_or text i 0) ≡ false
    → is_form form text ≡ is_form (drop i form) (drop i text) → false ≡ is_form form text
form_ends form text i same lt differs so_far =
    sym (so_far ∙ form_step form text i same lt ∙ ap (λ (b : Bool). b && is_form (drop (suc i) form) (drop (suc i) text)) differs)

-- all of it
pub form_done : (form text : List ℕ) (i : ℕ) → length form ≡ length text → length form ≤ i → is_form form text ≡ is_form (drop i form) (drop i text) → true ≡ is_form form text
form_done form text i same le so_far = sym (so_far ∙ rw (drop_all i form le, drop_all i text (omega arith)) refl)

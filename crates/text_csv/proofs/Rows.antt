-- Fields and rows, one after another.
use Rattle.std.proofs.Common.{◌≡◌, ℕ, ◌+◌, ◌<◌}
use Rattle.std.proofs.Common.{List, [], ◌∷◌, ◌++◌, length, get_or, take}
use Rattle.std.proofs.Common.{sym, ap, subst, ◌∙◌, arith, append_assoc, Vec}
use Rattle.std.specs.Prelude.{Option, Some, None}
use Rattle.std.specs.Io.KnownBytes.{Keeps}
use Rattle.std.specs.List.{flat_map}
use Rattle.std.proofs.lemmas.List.{append-nil, take_more}
use Rattle.std.proofs.lemmas.List.Concat.{flat_map-append}
use Rattle.csv.specs.declared.writer.Writer.{Writer}
use Rattle.csv.specs.Writing.{default_writer, field_text, fields_text, is_blank}
use Rattle.csv.specs.Writing.{text_written, writer_setup, fields_written, writer_under, writer_pending}
use Rattle.text_csv.specs.Table.{line}
use Rattle.text_csv.specs.Writing.{IsAt, AddsField, EndsRow, AddsText}

kept : (o : Option (List ℕ)) (xs : List ℕ) → Keeps (Some xs) o → o ≡ Some xs
kept None xs none = absurd none
kept (Some ys) xs is = ap (λ (t : List ℕ). Some t) is

abbrev F : List ℕ → List ℕ
F field = field_text default_writer field

row_is : (text a b c d e f g h i j k l : List ℕ)
    → (((((((((((((text ++ ([] ++ F a)) ++ (44 ∷ [] ++ F b)) ++ (44 ∷ [] ++ F c)) ++ (44 ∷ [] ++ F d)) ++ (44 ∷ [] ++ F e)) ++ (44 ∷ [] ++ F f))
    ++ (44 ∷ [] ++ F g)) ++ (44 ∷ [] ++ F h)) ++ (44 ∷ [] ++ F i)) ++ (44 ∷ [] ++ F j)) ++ (44 ∷ [] ++ F k)) ++ (44 ∷ [] ++ F l)) ++ 10 ∷ [])
    ≡ text ++ line (a ∷ b ∷ c ∷ d ∷ e ∷ f ∷ g ∷ h ∷ i ∷ j ∷ k ∷ l ∷ [])
unfolding line fields_text is_blank
row_is text a b c d e f g h i j k l = simp append_assoc

module _ (A : Type 0) where
  abbrev Sheet : Type 0
  Sheet = Writer (Vec ℕ A)

  abbrev written : Sheet → Option (List ℕ)
  written w = text_written (λ (v : Vec ℕ A). Some v.items) w

  -- a row of twelve fields
  pub row_added : (w0 w1 w2 w3 w4 w5 w6 w7 w8 w9 w10 w11 w12 w13 : Sheet) (a b c d e f g h i j k l : List ℕ)
      → AddsField w0 w1 a → AddsField w1 w2 b → AddsField w2 w3 c → AddsField w3 w4 d → AddsField w4 w5 e → AddsField w5 w6 f
      → AddsField w6 w7 g → AddsField w7 w8 h → AddsField w8 w9 i → AddsField w9 w10 j → AddsField w10 w11 k → AddsField w11 w12 l
      → EndsRow w12 w13 → AddsText w0 w13 (line (a ∷ b ∷ c ∷ d ∷ e ∷ f ∷ g ∷ h ∷ i ∷ j ∷ k ∷ l ∷ []))
  unfolding AddsField EndsRow AddsText
  row_added w0 w1 w2 w3 w4 w5 w6 w7 w8 w9 w10 w11 w12 w13 a b c d e f g h i j k l sa sb sc sd se sf sg sh si sj sk sl end text at =
      subst (λ (t : List ℕ). IsAt w13 t 0) (row_is text a b c d e f g h i j k l)
      (end _ (sl _ 11 (omega arith) (sk _ 10 (omega arith) (sj _ 9 (omega arith) (si _ 8 (omega arith) (sh _ 7 (omega arith)
      (sg _ 6 (omega arith) (sf _ 5 (omega arith) (se _ 4 (omega arith) (sd _ 3 (omega arith) (sc _ 2 (omega arith)
      (sb _ 1 (omega arith) (sa text 0 (omega arith) at)))))))))))))

  -- no row
  pub none_added : (w : Sheet) → AddsText w w []
  unfolding AddsText
  none_added w text at = subst (λ (t : List ℕ). IsAt w t 0) (sym (append-nil text)) at

  -- rows, and more of them
  pub both_added : (old mid new : Sheet) (a b : List ℕ) → AddsText old mid a → AddsText mid new b → AddsText old new (a ++ b)
  unfolding AddsText
  both_added old mid new a b first second text at =
      subst (λ (t : List ℕ). IsAt new t 0) (append_assoc text a b) (second (text ++ a) (first text at))

  -- the rows of one item more
  pub one_more : {X : Type 0} (f : X → List ℕ) (xs : List X) (i : ℕ) (x : X) (old mid new : Sheet) → i < length xs → x ≡ get_or xs i x
      → AddsText old mid (flat_map f (take i xs)) → AddsText mid new (f x) → AddsText old new (flat_map f (take (i + 1) xs))
  one_more f xs i x old mid new below at had step =
      let more : flat_map f (take i xs) ++ f x ≡ flat_map f (take (i + 1) xs) =
      sym (rw (take_more xs i x below, ← at, flat_map-append) (simp append-nil)) in
      subst (λ (t : List ℕ). AddsText old new t) more (both_added old mid new (flat_map f (take i xs)) (f x) had step)

  -- a writer that begins
  pub begun : (w : Sheet) (v : Vec ℕ A) → writer_under w ≡ v → v.items ≡ [] → writer_pending w ≡ [] → writer_setup w ≡ default_writer
      → fields_written w ≡ 0 → IsAt w [] 0
  begun w v under none pending setup count = record {
    is = λ i. Some ((ap (λ (x : Vec ℕ A). x.items) under ∙ none) i ++ pending i);
    count = count;
    setup = setup;
  }

  -- and what it holds at the end
  pub ended : (begin end : Sheet) (v : Vec ℕ A) (text : List ℕ) → IsAt begin [] 0 → AddsText begin end text → Keeps (written end) (Some v.items)
      → v.items ≡ text
  unfolding AddsText
  ended begin end v text at adds keeps =
      let is = (adds [] at).is in
      let same : Some v.items ≡ Some text = kept (Some v.items) text (subst (λ (o : Option (List ℕ)). Keeps o (Some v.items)) is keeps) in
      cc same

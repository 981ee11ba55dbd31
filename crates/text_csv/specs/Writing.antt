-- How a table is written, field by field: what the code keeps, and no definition of the subject.
use Rattle.std.specs.Prelude.{◌≡◌, ℕ, suc, ◌<◌, List, [], ◌∷◌, ◌++◌, Some, Vec}
use Rattle.csv.specs.declared.writer.Writer.{Writer}
use Rattle.csv.specs.Writing.{default_writer, field_text, next_sep, text_written}
use Rattle.csv.specs.Writing.{writer_setup, fields_written}

module _ {A : Type 0} where
  -- a writer holds a text, the end of which are so many fields of a row
  pub record IsAt (w : Writer (Vec ℕ A)) (text : List ℕ) (fields : ℕ) : Type 0 where
    pub is : text_written (λ (v : Vec ℕ A). Some v.items) w ≡ Some text
    pub count : fields_written w ≡ fields
    pub setup : writer_setup w ≡ default_writer

  -- one field more, of the twelve
  unfoldable pub AddsField : Writer (Vec ℕ A) → Writer (Vec ℕ A) → List ℕ → Type 0
  AddsField old new field =
      (text : List ℕ) (n : ℕ) → n < 12 → IsAt old text n
      → IsAt new (text ++ (next_sep default_writer n ++ field_text default_writer field)) (suc n)

  -- the end of a row of twelve
  unfoldable pub EndsRow : Writer (Vec ℕ A) → Writer (Vec ℕ A) → Type 0
  EndsRow old new = (text : List ℕ) → IsAt old text 12 → IsAt new (text ++ 10 ∷ []) 0

  -- whole rows more
  unfoldable pub AddsText : Writer (Vec ℕ A) → Writer (Vec ℕ A) → List ℕ → Type 0
  AddsText old new more = (text : List ℕ) → IsAt old text 0 → IsAt new (text ++ more) 0

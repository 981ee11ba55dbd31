-- Whether each item of a list comes after the one before it.
use Rattle.std.specs.Prelude.{Bool, true, List, [], ◌∷◌, Option, Some, None, ◌&&◌}
use Rattle.std.specs.Ordering.{is_lt}
use Rattle.std.specs.declared.cmp.Ordering.{Ordering}

module _ {X : Type 0} (cmp : X → X → Ordering) where
  -- whether an item comes after the one before it, where there is one
  abbrev pub is_after : Option X → X → Bool
  is_after None x = true
  is_after (Some last) x = is_lt (cmp last x)

  -- whether each item comes after the one before it, the first one's being given
  abbrev pub rises_from : Option X → List X → Bool
  rises_from last [] = true
  rises_from last (x ∷ xs) = is_after last x && rises_from (Some x) xs

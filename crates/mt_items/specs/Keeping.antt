-- What an operation does to cells, and they still hold what the operations noted leave. Working predicates.
use Rattle.std.specs.Prelude.{List, ◌∷◌}
use Rattle.mt_stamp.specs.Moment.{Moment}
use Rattle.mt_op.specs.Operation.{Operation}
use Rattle.mt_items.specs.Noting.{MayFollow, AreNoted, Concerns}

-- cells made of an operation that adds its own item
abbrev pub Makes : {C : Type 0} → (Moment → List Operation → C → Type 0) → Operation → C → Type 0
Makes Holds o made = (ops : List Operation) → MayFollow ops o → AreNoted ops → Holds o.stamp (o ∷ ops) made

-- the cells of an item before and after an operation on it
abbrev pub Keeps : {C : Type 0} → (Moment → List Operation → C → Type 0) → Operation → C → C → Type 0
Keeps Holds o before after = (ops : List Operation) (item : Moment) → Concerns ops item o → Holds item ops before → Holds item (o ∷ ops) after

-- the cells of all items of a kind before and after an operation
abbrev pub KeepsAll : {M : Type 0} → (List Operation → M → Type 0) → Operation → M → M → Type 0
KeepsAll Holds o before after = (ops : List Operation) → MayFollow ops o → AreNoted ops → Holds ops before → Holds (o ∷ ops) after

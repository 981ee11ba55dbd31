-- What all cells hold of the operations noted.
use Rattle.std.specs.Prelude.{List}
use Rattle.mt_stamp.specs.Moment.{Moment}
use Rattle.mt_op.specs.declared.need.Role.TheVariants.{Place}
use Rattle.mt_op.specs.Operation.{Operation}
use Rattle.mt_items.specs.Noting.{AreNoted}
use Rattle.mt_items.specs.Cells.{HoldsEach, HoldsMarkers, HoldsClips, HoldsTracks}
use Rattle.mt_items.specs.declared.cells.MarkerCells.{MarkerCells}
use Rattle.mt_items.specs.declared.cells.ClipCells.{ClipCells}
use Rattle.mt_items.specs.declared.cells.TrackCells.{TrackCells}

-- A working predicate: the places that were given.
abbrev pub HoldsPlaces : {U : Type 0} → List Operation → List (Moment × U) → Type 0
HoldsPlaces ops places = HoldsEach Place (λ item ops c. Unit {0}) ops places

-- A working predicate: all that an `Items` holds.
pub record HoldsAll {A U : Type 0} (ops : List Operation) (t : List (Moment × TrackCells A)) (c : List (Moment × ClipCells A)) (m : List (Moment × MarkerCells A)) (p : List (Moment × U)) : Type 0 where
  pub noted : AreNoted ops
  pub tracks : HoldsTracks ops t
  pub clips : HoldsClips ops c
  pub markers : HoldsMarkers ops m
  pub places : HoldsPlaces ops p

-- What a session is made of. Working definitions.
use Rattle.std.specs.Prelude.{◌≡◌, ℕ, List}
use Rattle.std.specs.List.{AllByRecursion}
use Rattle.std.specs.Map.{keys_of}
use Rattle.mt_stamp.specs.Moment.{Moment}
use Rattle.mt_op.specs.Operation.{Operation}
use Rattle.mt_op.specs.declared.need.Role.TheVariants.{Marker as MarkerRole}
use Rattle.mt_items.specs.Cells.{HoldsMarker, items_of}
use Rattle.mt_items.specs.Noting.{AreNoted}
use Rattle.mt_items.specs.declared.cells.MarkerCells.{MarkerCells}
use Rattle.mt_sessionview.specs.Content.{Track, Content}
use Rattle.mt_sessionview.specs.Noted.{markers_in, tracks_in}
use Rattle.mt_sessionview.specs.Session.{session_of}

-- the session of noted operations, with a number of others held
abbrev pub session_in : List Operation → ℕ → Content
session_in items held = record { tracks = tracks_in items; markers = markers_in items; held = held }

-- the tracks that noted operations show, and the cells of the markers
pub record ArePartsOf {A : Type 0} (items : List Operation) (tracks : List Track) (cells : List (Moment × MarkerCells A)) : Type 0 where
  pub noted : AreNoted items
  pub tracks_are : tracks ≡ tracks_in items
  pub markers_are : keys_of cells ≡ items_of MarkerRole items
  pub each : AllByRecursion (λ e. HoldsMarker e.0 items e.1) cells

-- the same of the session of operations
abbrev pub ArePartsOfSession : {A : Type 0} → List Operation → List Track → List (Moment × MarkerCells A) → ℕ → Type 0
ArePartsOfSession ops tracks cells held = (items : List Operation) × (ArePartsOf items tracks cells × (session_in items held ≡ session_of ops))

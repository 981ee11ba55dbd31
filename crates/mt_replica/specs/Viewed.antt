-- Working definitions: the session that is kept with what is noted.
use Rattle.std.specs.Prelude.{◌≡◌, ℕ, List, Option}
use Rattle.mt_tracklist.specs.declared.track_list.Placed.{Placed}
use Rattle.mt_op.specs.Operation.{Operation}
use Rattle.mt_sessionview.specs.Content.{Content}
use Rattle.mt_mending.specs.Before.{ArePlacesOf}
use Rattle.mt_mending.specs.Mending.{session_in}

-- the operations noted, the last one first, and the number held that their session says, where it is kept
pub record Viewed : Type 0 where
  pub ops : List Operation
  pub held : Option ℕ

-- These are the places of tracks and the session that operations show.
pub record AreShown (ops : List Operation) (places : List Placed) (session : Content) : Type 0 where
  pub places_are : ArePlacesOf places ops
  pub session_is : session ≡ session_in ops session.held

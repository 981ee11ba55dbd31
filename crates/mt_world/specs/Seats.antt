-- Working definitions: an editor of the world in memory.
use Rattle.std.specs.Prelude.{◌≡◌, ℕ, true, List, map as list_map, Some, unwrap_or, slice_get}
use Rattle.std.specs.List.{All}
use Rattle.std.specs.FinMap as map
use Rattle.mt_op.specs.Operation.{Operation}
use Rattle.mt_opcodec.specs.LogValue.{LogMap}
use Rattle.mt_opcodec.specs.Sets.{Has}
use Rattle.mt_opcodec.specs.Union.{Agree, union}
use Rattle.mt_replica.specs.Kept.{Kept}
use Rattle.mt_world.specs.declared.seat.Seat.{Seat}
use Rattle.mt_world.specs.World.{Peer, World, is_sent}

abbrev pub peer_from : Kept → LogMap → Peer
peer_from kept saved = record { name = kept.name; taken = unwrap_or kept.log map.empty; saved = saved }

abbrev pub peer_of : {A : Type 0} → Seat A → Peer
peer_of seat = peer_from seat.editor seat.saved

abbrev pub seen : {A : Type 0} → List (Seat A) → List Operation → World
seen seats sent = record { peers = list_map peer_of seats; sent = sent }

-- Its editor has not failed: it has taken what was saved and what was not, and these agree.
pub record IsWhole {A : Type 0} (seat : Seat A) : Type 0 where
  pub taken : seat.editor.log ≡ Some (union seat.saved seat.unsaved)
  pub agree : Agree seat.saved seat.unsaved

abbrev pub AreWhole : {A : Type 0} → List (Seat A) → Type 0
AreWhole seats = All IsWhole seats

-- what an editor has saved was sent
abbrev pub SavedIsSent : World → Type 0
SavedIsSent world = (i : ℕ) (peer : Peer) → slice_get world.peers i ≡ Some peer → (o : Operation) → Has peer.saved o → is_sent world.sent o ≡ true

-- no editor has failed, and all that was saved was sent
pub record IsSound {A : Type 0} (seats : List (Seat A)) (sent : List Operation) : Type 0 where
  pub whole : AreWhole seats
  pub saved : SavedIsSent (seen seats sent)

use Rattle.mt_sessionview.proofs.PlaceTree.{places_are_a_tree}
use Rattle.mt_sessionview.proofs.TrackSorting.{every_stamp}
use Rattle.mt_sessionview.proofs.laws.places_tree.Goals as goal

pub returns : goal.returns
returns c ops logged = places_are_a_tree ops (every_stamp ops logged.rise) logged.valid

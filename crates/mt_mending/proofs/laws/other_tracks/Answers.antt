use Rattle.mt_mending.proofs.Leaving.{other_tracks_stay}
use Rattle.mt_mending.proofs.laws.other_tracks.Goals as goal

pub returns : goal.returns
returns c = other_tracks_stay

use Rattle.mt_mending.proofs.Tracks.{tracks_are_mended}
use Rattle.mt_mending.proofs.laws.mended_tracks.Goals as goal

pub returns : goal.returns
returns c o r noted = tracks_are_mended o r noted

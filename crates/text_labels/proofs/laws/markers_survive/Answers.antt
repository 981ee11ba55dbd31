use Rattle.text_labels.proofs.Tracks.{markers_survive}
use Rattle.text_labels.proofs.laws.markers_survive.Goals as goal

pub returns : goal.returns
returns c = markers_survive

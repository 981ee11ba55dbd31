use Rattle.text_labels.proofs.ReadBack.{frames_survive}
use Rattle.text_labels.proofs.laws.frames_survive.Goals as goal

pub returns : goal.returns
returns c = frames_survive

use Rattle.text_cues.proofs.Titles.{labels_become_titles}
use Rattle.text_cues.proofs.laws.labels_become_titles.Goals as goal

pub returns : goal.returns
returns c = labels_become_titles

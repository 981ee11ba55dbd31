use Rattle.text_cues.proofs.Titles.{titles_stay}
use Rattle.text_cues.proofs.laws.titles_stay.Goals as goal

pub returns : goal.returns
returns c = titles_stay

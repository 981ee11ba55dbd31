use Rattle.text_cues.proofs.Asking.{lines_ask}
use Rattle.text_cues.proofs.laws.lines_ask.Goals as goal

pub returns : goal.returns
returns c = lines_ask c.numbers.ensures

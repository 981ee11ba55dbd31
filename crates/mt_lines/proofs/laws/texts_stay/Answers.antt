use Rattle.mt_lines.proofs.Kept.{texts_stay}
use Rattle.mt_lines.proofs.laws.texts_stay.Goals as goal

pub returns : goal.returns
returns c = texts_stay

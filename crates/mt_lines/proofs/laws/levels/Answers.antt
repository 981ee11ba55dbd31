use Rattle.mt_lines.proofs.Fractions.{levels_are_nearest}
use Rattle.mt_lines.proofs.laws.levels.Goals as goal

pub returns : goal.returns
returns c = levels_are_nearest

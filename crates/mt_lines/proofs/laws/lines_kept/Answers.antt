use Rattle.mt_lines.proofs.Kept.{lines_kept}
use Rattle.mt_lines.proofs.laws.lines_kept.Goals as goal

pub returns : goal.returns
returns c = lines_kept

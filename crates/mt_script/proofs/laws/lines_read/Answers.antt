use Rattle.mt_script.proofs.TextLines.{lines_are_read}
use Rattle.mt_script.proofs.laws.lines_read.Goals as goal

pub returns : goal.returns
returns c = lines_are_read

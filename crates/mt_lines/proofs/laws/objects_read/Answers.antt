use Rattle.mt_lines.proofs.ReadBack.{objects_are_read}
use Rattle.mt_lines.proofs.laws.objects_read.Goals as goal

pub returns : goal.returns
returns c = objects_are_read

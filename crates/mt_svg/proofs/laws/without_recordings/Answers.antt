use Rattle.mt_svg.proofs.Absent.{all_absent}
use Rattle.mt_svg.proofs.laws.without_recordings.Goals as goal

pub returns : goal.returns
returns c = all_absent

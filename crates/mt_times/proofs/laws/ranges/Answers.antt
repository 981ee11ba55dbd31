use Rattle.mt_times.proofs.Ranges.{levels_in_range}
use Rattle.mt_times.proofs.laws.ranges.Goals as goal

pub returns : goal.returns
returns c = levels_in_range

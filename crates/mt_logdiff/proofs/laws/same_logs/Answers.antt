use Rattle.mt_logdiff.proofs.Counting.{same_tells_nothing}
use Rattle.mt_logdiff.proofs.laws.same_logs.Goals as goal

pub returns : goal.returns
returns c = same_tells_nothing

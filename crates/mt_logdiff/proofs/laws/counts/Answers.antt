use Rattle.mt_logdiff.proofs.Counting.{each_is_counted}
use Rattle.mt_logdiff.proofs.laws.counts.Goals as goal

pub returns : goal.returns
returns c = each_is_counted

use Rattle.mt_logdiff.proofs.Deciding.{both_are_last}
use Rattle.mt_logdiff.proofs.laws.fields_of_both.Goals as goal

pub returns : goal.returns
returns c = both_are_last

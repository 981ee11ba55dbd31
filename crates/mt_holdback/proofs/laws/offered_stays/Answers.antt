use Rattle.mt_holdback.proofs.Offers.{offered_stays}
use Rattle.mt_holdback.proofs.laws.offered_stays.Goals as goal

pub returns : goal.returns
returns g c = offered_stays g.T.Waits.rules

use Rattle.mt_holdback.proofs.Offers.{held_releases_nothing}
use Rattle.mt_holdback.proofs.laws.offered_and_held.Goals as goal

pub returns : goal.returns
returns g c = held_releases_nothing g.T.Waits.rules

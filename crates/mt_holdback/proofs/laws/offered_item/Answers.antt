use Rattle.mt_holdback.proofs.Offers.{offer_keeps_the_rule}
use Rattle.mt_holdback.proofs.laws.offered_item.Goals as goal

pub returns : goal.returns
returns g c = offer_keeps_the_rule g.T.Waits.rules

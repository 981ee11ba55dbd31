use Rattle.mt_holdback.proofs.Readiness.{more_is_ready}
use Rattle.mt_holdback.proofs.laws.more_items.Goals as goal

pub returns : goal.returns
returns g c = more_is_ready g.T.Waits.rules

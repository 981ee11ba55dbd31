use Rattle.mt_holdback.proofs.Readiness.{ready_is_defined}
use Rattle.mt_holdback.proofs.laws.readiness.Goals as goal

pub returns : goal.returns
returns g c = ready_is_defined g.T.Waits.rules

use Rattle.mt_holdback.proofs.Readiness.{held_changes_nothing}
use Rattle.mt_holdback.proofs.laws.held_item.Goals as goal

pub returns : goal.returns
returns g c = held_changes_nothing g.T.Waits.rules

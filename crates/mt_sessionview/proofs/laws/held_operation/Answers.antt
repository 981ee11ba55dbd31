use Rattle.mt_sessionview.proofs.HeldOps.{held_is_counted}
use Rattle.mt_sessionview.proofs.laws.held_operation.Goals as goal

pub returns : goal.returns
returns c = held_is_counted

use Rattle.mt_op.proofs.Needs.{ready_is_defined}
use Rattle.mt_op.proofs.laws.readiness.Goals as goal

pub returns : goal.returns
returns c = ready_is_defined

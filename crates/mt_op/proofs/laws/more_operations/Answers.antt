use Rattle.mt_op.proofs.Readier.{ready_among_more}
use Rattle.mt_op.proofs.laws.more_operations.Goals as goal

pub returns : goal.returns
returns c = ready_among_more

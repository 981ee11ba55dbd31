use Rattle.mt_holdback.proofs.Operations.{op_names_older}
use Rattle.mt_holdback.proofs.op.OpWaits.key.Goals as goal

pub returns-clause-older : goal.returns-clause-older
returns-clause-older g c = op_names_older c.args.self.now c.stamp.ensures.valid

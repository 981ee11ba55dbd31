use Rattle.mt_replica.proofs.NextOne.{made_is_next}
use Rattle.mt_replica.proofs.laws.made_operations.Goals as goal

pub returns : goal.returns
returns c = made_is_next

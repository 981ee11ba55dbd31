use Rattle.mt_mending.proofs.Leaving.{items_are_of_a_kind}
use Rattle.mt_mending.proofs.laws.kinds_apart.Goals as goal

pub returns : goal.returns
returns c o ops noted = items_are_of_a_kind o ops noted

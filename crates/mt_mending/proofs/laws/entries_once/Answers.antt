use Rattle.mt_mending.proofs.Once.{entries_stand_once}
use Rattle.mt_mending.proofs.laws.entries_once.Goals as goal

pub returns : goal.returns
returns c ops noted = entries_stand_once ops noted

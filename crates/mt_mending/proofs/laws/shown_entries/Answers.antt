use Rattle.mt_mending.proofs.Found.{entries_are_shown}
use Rattle.mt_mending.proofs.laws.shown_entries.Goals as goal

pub returns : goal.returns
returns c ops noted = entries_are_shown ops noted

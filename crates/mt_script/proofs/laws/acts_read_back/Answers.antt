use Rattle.mt_script.proofs.ReadBack.{acts_are_read_back}
use Rattle.mt_script.proofs.laws.acts_read_back.Goals as goal

pub returns : goal.returns
returns c = acts_are_read_back

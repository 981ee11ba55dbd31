use Rattle.mt_script.proofs.Stamps.{stamps_are_spelled}
use Rattle.mt_script.proofs.laws.stamps.Goals as goal

pub returns : goal.returns
returns c = stamps_are_spelled

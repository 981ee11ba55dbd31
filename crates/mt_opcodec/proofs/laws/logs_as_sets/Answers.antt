use Rattle.mt_opcodec.proofs.Sets.{logs_are_sets}
use Rattle.mt_opcodec.proofs.laws.logs_as_sets.Goals as goal

pub returns : goal.returns
returns c = logs_are_sets

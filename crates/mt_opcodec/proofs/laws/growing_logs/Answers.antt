use Rattle.mt_opcodec.proofs.Sets.{ready_stays}
use Rattle.mt_opcodec.proofs.laws.growing_logs.Goals as goal

pub returns : goal.returns
returns c = ready_stays

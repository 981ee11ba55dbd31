use Rattle.mt_opcodec.proofs.OneLog.{one_log_of_each_text}
use Rattle.mt_opcodec.proofs.laws.one_log.Goals as goal

pub returns : goal.returns
returns c = one_log_of_each_text

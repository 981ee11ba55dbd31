use Rattle.mt_logdiff.proofs.Exchanging.{exchange_turns}
use Rattle.mt_logdiff.proofs.laws.exchanged_logs.Goals as goal

pub returns : goal.returns
returns c = exchange_turns

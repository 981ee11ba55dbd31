use Rattle.mt_sync.proofs.Beginning.{caller_refused}
use Rattle.mt_sync.proofs.conversing.converse.Goals as goal

pub returns-in-Err-clause-converses : goal.returns-in-Err-clause-converses
returns-in-Err-clause-converses g c = caller_refused _ _ _ _ _ _ c.in-Caller.is c.in-Err.ensures.begins

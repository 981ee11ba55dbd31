use Rattle.mt_holdback.proofs.Readiness.{one_pass_finds_all}
use Rattle.mt_holdback.proofs.laws.one_pass.Goals as goal

pub returns : goal.returns
returns g c = one_pass_finds_all g.T.Waits.rules

use Rattle.mt_opcodec.proofs.EqualLogs.{logs_decided}
use Rattle.mt_opcodec.proofs.laws.equal_logs.Goals as goal

pub returns : goal.returns
returns g c = logs_decided c.args.a.now c.args.b.now c.eq.result c.runs.ensures.logged c.runs-2.ensures.logged c.runs.ensures.whole c.runs-2.ensures.whole c.eq.ensures

use Rattle.mt_opcodec.proofs.RunLogs.{by_runs}
use Rattle.mt_opcodec.proofs.log.LogPartialEq.eq.Goals as goal

pub returns : goal.returns
returns g c =
    by_runs c.args.self.now c.args.other.now c.runs.result.now c.runs-2.result.now c.runs.ensures.runs c.runs-2.ensures.runs c.runs.ensures.value c.runs-2.ensures.value c.runs.ensures.logged c.runs-2.ensures.logged c.equal_runs.result c.equal_runs.ensures

use Rattle.mt_sync.proofs.Honest.{fronts_are_honest}
use Rattle.mt_sync.proofs.laws.fronts.Goals as goal

pub returns : goal.returns
returns g c = fronts_are_honest c.args.log.now c.runs.ensures.logged c.runs.ensures.whole

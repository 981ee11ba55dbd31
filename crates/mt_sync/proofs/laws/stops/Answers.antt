use Rattle.mt_sync.proofs.Stops.{ends_stop}
use Rattle.mt_sync.proofs.laws.stops.Goals as goal

pub returns : goal.returns
returns c = ends_stop

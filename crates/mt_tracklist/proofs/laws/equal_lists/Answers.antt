use Rattle.mt_tracklist.proofs.Equal.{lists_decided}
use Rattle.mt_tracklist.proofs.laws.equal_lists.Goals as goal

pub returns : goal.returns
returns g c = lists_decided c.args.first.now c.args.second.now c.eq.result c.eq.ensures

use Rattle.mt_sessionview.specs.Session.{ready_ops, track_cmp}
use Rattle.mt_sessionview.proofs.Orders.{track_cmp_total}
use Rattle.mt_stamp.proofs.Sorting.{sorts}
use Rattle.mt_sessionview.proofs.laws.sorted_tracks.Goals as goal

pub returns : goal.returns
returns c ops = sorts (track_cmp ops) (track_cmp_total (ready_ops ops))

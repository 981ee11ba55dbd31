use Rattle.mt_tracklist.proofs.Skipping.{none_ordered}
use Rattle.mt_tracklist.proofs.track_list.TrackList.new.Goals as goal

pub invariant_of-result : goal.invariant_of-result
invariant_of-result g c = none_ordered c.new.result.items c.new.ensures.items

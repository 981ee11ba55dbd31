use Rattle.mt_tracklist.proofs.Elements.{elements_tell_the_list}
use Rattle.mt_tracklist.proofs.laws.any_order.Goals as goal

pub returns : goal.returns
returns c = elements_tell_the_list

use Rattle.mt_tracklist.proofs.Skipping.{skipping_keeps_the_order}
use Rattle.mt_tracklist.proofs.laws.skipping.Goals as goal

pub returns : goal.returns
returns c = skipping_keeps_the_order

use Rattle.std.proofs.Common.{◌≡◌, [], rules}
use Rattle.mt_cells.proofs.StampSets.{left_rising}
use Rattle.mt_cells.proofs.stamp_set.left_of_many.Goals as goal

pub returns-clause-rising : goal.returns-clause-rising
returns-clause-rising g c =
    let ended : c.loop-stamp.stamp-iterator ≡ [] = search rules in
    left_rising c.args.stamps.now.keys c.args.other.now c.loop-stamp.left.items c.loop-stamp.stamp-iterator c.into_iter-stamp-iterator.result
    c.loop-stamp.invariant ended c.into_iter-stamp-iterator.ensures.into_iter_gives.0 c.into_iter-stamp-iterator.ensures.into_iter_gives.4

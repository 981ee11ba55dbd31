use Rattle.std.proofs.Common.{◌≡◌, length}
use Rattle.mt_tracklist.specs.Rising.{given_tree}
use Rattle.mt_tracklist.proofs.Linking.{IsLinked}
use Rattle.mt_tracklist.proofs.rising.order_of.Given as goal

abbrev pub invariant-loop-index : goal.invariant-loop-index
invariant-loop-index g l = record {
  count : l.chain.count ≡ length l.places;
  linked : IsLinked (given_tree l.places) l.chain.items l.index;
}

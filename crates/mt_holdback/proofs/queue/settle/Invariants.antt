use Rattle.std.proofs.Common.{◌≡◌, Some, btree_map_len}
use Rattle.mt_holdback.specs.Passing.{after_pass}
use Rattle.mt_holdback.specs.Queue.{contents_of, IsQueueOf}
use Rattle.mt_holdback.proofs.queue.settle.Given as goal

abbrev pub invariant-loop-item : goal.invariant-loop-item
invariant-loop-item g l = record {
  works : IsQueueOf g.T.Waits.rules l.released.items l.queue;
  passes : after_pass g.T.Waits.rules (contents_of l.initial.released.items (Some l.initial.queue)) ≡ after_pass g.T.Waits.rules (contents_of l.released.items (Some l.queue));
}

abbrev pub decreases-loop-item : goal.decreases-loop-item
decreases-loop-item g l = btree_map_len l.queue.items

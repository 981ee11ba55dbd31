use Rattle.std.proofs.Common.{◌≡◌, btree_set_len}
use Rattle.mt_holdback.specs.Queue.{items_of, IsQueueOf}
use Rattle.mt_holdback.proofs.queue.next_ready.Given as goal

abbrev pub invariant-loop-key : goal.invariant-loop-key
invariant-loop-key g l = record {
  works : IsQueueOf g.T.Waits.rules l.released l.queue;
  same : items_of l.queue.items.entries ≡ items_of l.initial.queue.items.entries;
}

abbrev pub decreases-loop-key : goal.decreases-loop-key
decreases-loop-key g l = btree_set_len l.queue.woken

use Rattle.std.proofs.Common.{map, drop}
use Rattle.mt_replica.proofs.FromLog.{IsTaking}
use Rattle.mt_replica.proofs.by_stamp.all_taken.Given as goal

abbrev pub invariant-loop-op : goal.invariant-loop-op
invariant-loop-op g l = IsTaking l.waiting l.items (map (λ o. o.now) (drop l.op-index l.ops)) (map (λ o. o.now) l.ops)

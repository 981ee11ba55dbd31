use Rattle.std.proofs.Common.{◌≡◌, ◌++◌, map, drop}
use Rattle.mt_replica.proofs.shown.refs_by_stamp.Given as goal

abbrev pub invariant-loop-op : goal.invariant-loop-op
invariant-loop-op g l = map (λ o. o.now) l.refs.items ++ drop l.op-index l.ops ≡ l.ops

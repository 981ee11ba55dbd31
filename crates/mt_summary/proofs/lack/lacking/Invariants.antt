use Rattle.std.proofs.Common.{◌≡◌, ◌++◌, drop, map}
use Rattle.std.specs.List.{filter}
use Rattle.mt_summary.specs.Summary.{IsSummary}
use Rattle.mt_summary.proofs.Missing.{lacks}
use Rattle.mt_summary.proofs.lack.lacking.Given as goal

abbrev pub invariant-loop-op : goal.invariant-loop-op
invariant-loop-op g l = IsSummary l.rest × (l.ops.items ++ filter (lacks l.rest) (drop l.op-index (map (λ o. o.now) l.op-items)) ≡ filter (lacks l.summary) (map (λ o. o.now) l.op-items))

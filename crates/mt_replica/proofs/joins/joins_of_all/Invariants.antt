-- Counted so far are those before.
use Rattle.std.proofs.Common.{◌≡◌, take}
use Rattle.std.specs.List.{sum_by}
use Rattle.std.specs.Io.Iter.{u64_saturate}
use Rattle.mt_replica.specs.Joins.{joins_of}
use Rattle.mt_replica.proofs.joins.joins_of_all.Given as goal

abbrev pub invariant-loop-op : goal.invariant-loop-op
invariant-loop-op g l = l.joins ≡ u64_saturate (sum_by joins_of (take l.op-index l.ops))

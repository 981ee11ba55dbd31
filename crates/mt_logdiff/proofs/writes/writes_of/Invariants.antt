-- The writes of the operations below the index are there.
use Rattle.std.proofs.Common.{◌≡◌, map, take}
use Rattle.std.specs.List.{flat_map}
use Rattle.mt_logdiff.specs.Fields.{writes_in}
use Rattle.mt_logdiff.proofs.writes.writes_of.Given as goal

abbrev pub invariant-loop-op : goal.invariant-loop-op
invariant-loop-op g l = l.all.items ≡ flat_map writes_in (map (λ o. o.now) (take l.op-index l.ops))

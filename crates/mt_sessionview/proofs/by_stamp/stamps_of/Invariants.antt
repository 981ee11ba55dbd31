use Rattle.std.proofs.Common.{◌≡◌, map, take}
use Rattle.mt_op.specs.ByStamp.{stamp_of}
use Rattle.mt_sessionview.proofs.by_stamp.stamps_of.Given as goal

abbrev pub invariant-loop-op : goal.invariant-loop-op
invariant-loop-op g l = l.stamps.items ≡ map stamp_of (map (λ o. o.now) (take l.op-index l.ops))

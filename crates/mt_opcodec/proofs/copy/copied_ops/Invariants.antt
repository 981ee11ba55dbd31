use Rattle.std.proofs.Common.{◌≡◌, take}
use Rattle.mt_opcodec.proofs.copy.copied_ops.Given as goal

abbrev pub invariant-loop-op : goal.invariant-loop-op
invariant-loop-op g l = l.copies.items ≡ take l.op-index l.ops

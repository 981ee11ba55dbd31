use Rattle.std.proofs.Common.{◌+◌, length}
use Rattle.mt_opcodec.proofs.MovedOps.{IsJoining}
use Rattle.mt_opcodec.proofs.joining.walked_ops.Given as goal

abbrev pub invariant-loop-left : goal.invariant-loop-left
invariant-loop-left g l = IsJoining l.fn.left.items l.fn.right.items l.left.items l.right.items l.ops.items

abbrev pub decreases-loop-left : goal.decreases-loop-left
decreases-loop-left g l = length l.left.items + length l.right.items

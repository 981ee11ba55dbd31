use Rattle.std.proofs.Common.{◌≡◌, ◌++◌, length}
use Rattle.mt_opcodec.specs.LogValue.{operations}
use Rattle.mt_opcodec.proofs.log.Log.of_ops.Given as goal

abbrev pub invariant-loop-op : goal.invariant-loop-op
invariant-loop-op g l = operations l.log ++ l.rest.items ≡ l.fn.ops.items

abbrev pub decreases-loop-op : goal.decreases-loop-op
decreases-loop-op g l = length l.rest.items

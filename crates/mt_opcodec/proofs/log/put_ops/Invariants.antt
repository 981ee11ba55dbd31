use Rattle.std.proofs.Common.{◌≡◌, ◌++◌, take}
use Rattle.mt_opcodec.specs.Versions.{version_of}
use Rattle.mt_opcodec.specs.LogText.{op_texts}
use Rattle.mt_opcodec.proofs.log.put_ops.Given as goal

abbrev pub invariant-loop-op : goal.invariant-loop-op
invariant-loop-op g l = (l.out.items ≡ l.fn.out.items ++ op_texts (take l.op-index l.ops)) × (l.version ≡ version_of (take l.op-index l.ops))

use Rattle.std.proofs.Common.{◌≡◌, ◌++◌, take}
use Rattle.std.specs.List.{flat_map}
use Rattle.mt_opcodec.specs.OpText.{stamp_bytes}
use Rattle.mt_opcodec.proofs.op_writer.put_tags.Given as goal

abbrev pub invariant-loop-tag : goal.invariant-loop-tag
invariant-loop-tag g l = l.out.items ≡ l.initial.out.items ++ flat_map stamp_bytes (take l.tag-index l.tags)

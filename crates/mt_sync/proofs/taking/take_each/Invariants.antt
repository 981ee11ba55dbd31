use Rattle.std.proofs.Common.{◌≡◌, ◌≢◌, length, Option, None}
use Rattle.std.specs.Prelude.{Result}
use Rattle.std.specs.Vec.Iter.{into_iter_items, into_iter_len}
use Rattle.mt_opcodec.specs.LogValue.{LogMap}
use Rattle.mt_sync.specs.declared.fault.TalkFault.{TalkFault}
use Rattle.mt_sync.specs.Taking.{TakesIn}
use Rattle.mt_sync.proofs.taking.take_each.Given as goal

abbrev pub invariant-loop-op : goal.invariant-loop-op
invariant-loop-op g l =
    (l.editor.log ≢ None) × (l.editor.name ≡ l.fn.editor.name)
    × ((r : Result (Unit {0}) TalkFault) (new : Option LogMap) → TakesIn l.editor.log (into_iter_items l.op-iterator) r new → TakesIn l.fn.editor.log l.fn.ops.items r new)
    × (into_iter_len l.op-iterator ≡ length (into_iter_items l.op-iterator))

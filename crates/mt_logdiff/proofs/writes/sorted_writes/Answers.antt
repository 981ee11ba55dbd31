use Rattle.std.proofs.Common.{rules, map, Bor}
use Rattle.std.proofs.lemmas.List.Sorted.{answers_always}
use Rattle.std.specs.List.{flat_map}
use Rattle.mt_op.specs.declared.op.Op.{Op}
use Rattle.mt_logdiff.specs.declared.writes.FieldWrite.{FieldWrite}
use Rattle.mt_logdiff.specs.Fields.{rank, writes_in}
use Rattle.mt_logdiff.proofs.Writing.{writes_sorted}
use Rattle.mt_logdiff.proofs.writes.sorted_writes.Goals as goal

pub returns : goal.returns
returns g c =
    writes_sorted (flat_map writes_in (map (λ (o : Bor (Op g.row.A.Denot)). o.now) c.args.ops.now)) c.in_ok-all.all.items c.sort_by_key.new.self.items
    c.in_ok-all.ensures c.in_ok-sort_by_key.ensures.permutation
    (c.in_ok-sort_by_key.ensures.sorted (λ (w : FieldWrite). (w.item, (rank w.field, w.by))) (answers_always _ _ _ (λ h a r w k. search rules)))

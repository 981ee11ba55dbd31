use Rattle.std.proofs.Common.{sym, ◌∙◌, arith}
use Rattle.mt_bwfread.proofs.Chunks.{shorter}
use Rattle.mt_bwfread.proofs.Listing.{entry_long, left_entry, left_other, left_list, left_none, list_shorter}
use Rattle.mt_bwfread.proofs.list.next_entry.Goals as goal

pub returns-then-is_entry : goal.returns-then-is_entry
returns-then-is_entry c =
    let is = sym c.is_entry.ensures ∙ c.if-is_entry.true in
    record {
      long = entry_long c.args.id.now c.args.fixed _ is;
      first = sym c.loop-part.invariant ∙ left_entry c.args.id.now c.args.fixed c.loop-part.in_list.now c.loop-part.in_file.now c.in-Some.part c.in-Some.ensures is;
    }

pub loop-part-smaller-else-is_entry : goal.loop-part-smaller-else-is_entry
loop-part-smaller-else-is_entry c =
    rw c.in-Some.ensures.after (let less = shorter c.loop-part.in_list.now c.in-Some.ensures.whole in omega arith)

pub loop-part-preserved-else-is_entry : goal.loop-part-preserved-else-is_entry
loop-part-preserved-else-is_entry c =
    sym (left_other c.args.id.now c.args.fixed c.loop-part.in_list.now c.loop-part.in_file.now c.in-Some.part c.in-Some.ensures (sym c.is_entry.ensures ∙ c.if-is_entry.false)) ∙ c.loop-part.invariant

pub loop-part-smaller : goal.loop-part-smaller
loop-part-smaller c =
    let less = list_shorter c.loop-part.in_file.now c.adtl-in_list.result.now c.in-Some-first.part c.in-Some-first.ensures c.adtl-in_list.ensures in omega arith

pub loop-part-preserved : goal.loop-part-preserved
loop-part-preserved c =
    sym (left_list c.args.id.now c.args.fixed c.loop-part.in_list.now c.loop-part.in_file.now c.adtl-in_list.result.now c.in-Some-first.part c.in_default.ensures c.in-Some-first.ensures c.adtl-in_list.ensures) ∙ c.loop-part.invariant

pub returns-in_default-first : goal.returns-in_default-first
returns-in_default-first c =
    sym c.loop-part.invariant ∙ left_none c.args.id.now c.args.fixed c.loop-part.in_list.now c.loop-part.in_file.now c.in_default.ensures c.in_default-first.ensures

use Rattle.std.proofs.Common.{refl, sym, ◌∙◌, arith}
use Rattle.std.proofs.lemmas.List.{take_all, take_more_same}
use Rattle.mt_opcodec.proofs.RunLists.{same_at}
use Rattle.mt_opcodec.proofs.run_list.equal_lists.Goals as goal

pub loop-i-preserved : goal.loop-i-preserved
loop-i-preserved g c =
    take_more_same c.args.left.now c.args.right.now c.loop-i.i c.index-left-i.result c.loop-i-test.true (omega (arith, c.loop-i-test.true, c.if-left-right.false)) c.loop-i.invariant
    (same_at c.args.left.now c.args.right.now c.loop-i.i c.index-left-i.result c.index-right-i.result c.index-left-i.is c.index-right-i.is c.loop-i-test.true (omega (arith, c.loop-i-test.true, c.if-left-right.false)) (c.equal_ops.ensures.0 c.if-not-equal_ops.false))

pub returns : goal.returns
returns g c = (
  λ h. sym (take_all c.loop-i.i c.args.left.now c.loop-i-test.false) ∙ c.loop-i.invariant ∙ take_all c.loop-i.i c.args.right.now (omega (arith, c.loop-i-test.false, c.if-left-right.false)),
  λ same. refl,
)

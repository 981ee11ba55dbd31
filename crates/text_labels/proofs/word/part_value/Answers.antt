use Rattle.std.proofs.Common.{refl}
use Rattle.text_labels.proofs.Numbers.{part_more, share_more}
use Rattle.text_labels.proofs.word.part_value.Goals as goal

pub loop-index-preserved : goal.loop-index-preserved
loop-index-preserved c = record {
  value = part_more c.args.digits.now c.loop-index.index c.args.most c.value_of.result c.loop-index.part _
      c.loop-index-test.true c.requires.digits c.value_of.ensures.value c.loop-index.invariant.value refl;
  small = share_more c.args.most c.value_of.result c.loop-index.part c.value_of.ensures.small c.loop-index.invariant.small;
}

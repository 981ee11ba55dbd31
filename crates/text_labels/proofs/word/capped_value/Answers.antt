use Rattle.text_labels.proofs.Numbers.{capped_more}
use Rattle.text_labels.proofs.word.capped_value.Goals as goal

pub loop-digit-preserved : goal.loop-digit-preserved
loop-digit-preserved c =
    capped_more c.args.digits.now c.loop-digit.digit-index c.value_of.result c.loop-digit.value c.min-value.result
    c.loop-digit-test.true c.requires c.value_of.ensures.value c.loop-digit.invariant c.min-value.ensures

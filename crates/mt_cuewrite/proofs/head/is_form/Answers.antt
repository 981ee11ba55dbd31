use Rattle.std.proofs.Common.{refl, sym, ◌∙◌}
use Rattle.mt_cuewrite.proofs.Heads.{form_of_other_length, form_goes_on, form_ends, form_done}
use Rattle.mt_cuewrite.proofs.head.is_form.Goals as goal

pub returns-then-form-text : goal.returns-then-form-text
returns-then-form-text c = form_of_other_length c.args.form.now c.args.text.now c.if-form-text.true

pub loop-index-init : goal.loop-index-init
loop-index-init c = refl

pub returns-then-not-is_form_byte : goal.returns-then-not-is_form_byte
returns-then-not-is_form_byte c =
    form_ends c.args.form.now c.args.text.now c.loop-index.index c.if-form-text.false c.loop-index-test.true (sym c.is_form_byte.ensures ∙ c.if-not-is_form_byte.true) c.loop-index.invariant

pub loop-index-preserved : goal.loop-index-preserved
loop-index-preserved c =
    form_goes_on c.args.form.now c.args.text.now c.loop-index.index c.if-form-text.false c.loop-index-test.true (sym c.is_form_byte.ensures ∙ c.if-not-is_form_byte.false) c.loop-index.invariant

pub returns : goal.returns
returns c = form_done c.args.form.now c.args.text.now c.loop-index.index c.if-form-text.false c.loop-index-test.false c.loop-index.invariant

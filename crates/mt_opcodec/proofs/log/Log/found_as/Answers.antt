use Rattle.std.proofs.Common.{ap, sym, ◌∙◌, true≢false}
use Rattle.std.specs.FinMap as fin
use Rattle.std.specs.Option.{option_copied}
use Rattle.mt_stamp.specs.declared.name.Dot.{Dot}
use Rattle.mt_opcodec.proofs.log.Log.found_as.Goals as goal

pub returns-in-Some-2-clause-answer : goal.returns-in-Some-2-clause-answer
returns-in-Some-2-clause-answer g c = (
  c.dot-in-Some-2.ensures.value,
  (
    c.in-Some.there.now,
    (
      ap (λ (d : Dot). fin.get c.args.self.now d) (c.dot-in-Some-2.ensures.value ∙ sym c.dot.ensures.value) ∙ sym c.get.ensures ∙ ap option_copied c.in-Some.is,
      λ same. true≢false (sym (c.equal_ops.ensures.1 same) ∙ c.if-equal_ops.false),
    ),
  ),
)

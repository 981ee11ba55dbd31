use Rattle.std.proofs.Common.{ap, sym, ◌∙◌}
use Rattle.std.proofs.lemmas.List.Splits.{join_with_byte-slice_split}
use Rattle.mt_lines.specs.Cutting.{space, spaced}
use Rattle.mt_lines.specs.Line.{rest}
use Rattle.mt_lines.proofs.part.take.Goals as goal

pub returns-in-Rest-clause-value : goal.returns-in-Rest-clause-value
returns-in-Rest-clause-value c =
    rw c.in-Rest.is (ap rest (sym (join_with_byte-slice_split space c.args.cut.text.now) ∙ ap spaced c.args.cut.whole))

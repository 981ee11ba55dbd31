use Rattle.std.proofs.Common.{◌≡◌, ap, sym, ◌∙◌}
use Rattle.std.specs.Fmt.{decimal}
use Rattle.std.proofs.lemmas.Fmt.{parse-decimal}
use Rattle.mt_stamp.proofs.Texts.{unlike}
use Rattle.mt_stamp.proofs.text.number.Goals as goal

pub returns-in_default-clause-only : goal.returns-in_default-clause-only
returns-in_default-clause-only c =
    λ n fits is. let parsed = parse-decimal 64 n c.args.text.now c.parse.result fits fits is c.parse.ensures.value.0 in cc

pub returns-then-eq-clause-only : goal.returns-then-eq-clause-only
returns-then-eq-clause-only c =
    λ n fits is. let parsed = parse-decimal 64 n c.args.text.now c.parse.result fits fits is c.parse.ensures.value.0 in cc

pub returns-else-eq-clause-only : goal.returns-else-eq-clause-only
returns-else-eq-clause-only c =
    λ n fits is. let parsed = parse-decimal 64 n c.args.text.now c.parse.result fits fits is c.parse.ensures.value.0 in
    let same : c.in-Ok.number ≡ n = cc in
    absurd (unlike _ _ _ c.if-eq.false c.eq.ensures (c.format.ensures.text ∙ ap decimal same ∙ sym is))

use Rattle.std.proofs.Common.{◌≡◌, ap, sym, ◌∙◌}
use Rattle.mt_stamp.specs.Texts.{replica_text}
use Rattle.mt_stamp.proofs.Texts.{unlike}
use Rattle.mt_stamp.proofs.text.canonical_replica.Goals as goal

pub returns-in_default-clause-only : goal.returns-in_default-clause-only
returns-in_default-clause-only c = λ r fits is. let again = c.in_default.ensures.again r fits is in cc

pub returns-then-eq-clause-only : goal.returns-then-eq-clause-only
returns-then-eq-clause-only c = λ r fits is. let again = c.in-Ok.ensures.again r fits is in cc

pub returns-else-eq-clause-only : goal.returns-else-eq-clause-only
returns-else-eq-clause-only c =
    λ r fits is. let again = c.in-Ok.ensures.again r fits is in
    let same : c.in-Ok.replica ≡ r = cc in
    absurd (unlike _ _ _ c.if-eq.false c.eq.ensures (c.write.ensures ∙ ap replica_text same ∙ sym is))

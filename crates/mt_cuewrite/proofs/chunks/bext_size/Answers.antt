use Rattle.std.proofs.Common.{◌≡◌, ℕ, ◌+◌, sym, ap, subst, ◌∙◌}
use Rattle.std.specs.Prelude.{None}
use Rattle.mt_cuewrite.specs.Head.{HeadText, bad_text}
use Rattle.mt_cuewrite.proofs.Sizing.{length-bext}
use Rattle.mt_cuewrite.proofs.chunks.bext_size.Goals as goal

pub returns-clause-value : goal.returns-clause-value
returns-clause-value c =
    ap (λ (n : ℕ). 602 + n) c.history_size.ensures.value ∙ sym (length-bext c.args.format c.args.head.now (subst (λ (h : HeadText). bad_text h ≡ None) c.head.view_is c.head.invariant))

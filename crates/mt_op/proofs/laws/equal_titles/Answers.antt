use Rattle.std.proofs.Common.{◌≡◌, true, ℕ, List, sym, ◌∙◌, subst, eqb}
use Rattle.std.specs.Cmp.Lexicographic.{pointwise}
use Rattle.mt_op.proofs.Equal.{bytes_same, bytes_itself}
use Rattle.mt_op.proofs.laws.equal_titles.Goals as goal

pub returns : goal.returns
returns g c = (
  λ h. bytes_same c.args.a.now c.args.b.now (sym c.eq.ensures ∙ h),
  λ h. c.eq.ensures ∙ subst (λ (t : List ℕ). pointwise eqb c.args.a.now t ≡ true) h (bytes_itself c.args.a.now),
)

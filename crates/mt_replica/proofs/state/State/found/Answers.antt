use Rattle.std.proofs.Common.{◌∙◌, sym, ap, subst, Some}
use Rattle.std.specs.Option.{option_copied}
use Rattle.std.specs.FinMap as fin
use Rattle.mt_replica.specs.State.{StateValue, Named, Found}
use Rattle.mt_replica.proofs.Taking.{found_is}
use Rattle.mt_replica.proofs.state.State.found.Goals as goal

pub returns-in-Some : goal.returns-in-Some
returns-in-Some g c =
    subst (λ (n : Named). Found n.log c.args.op.now (Some c.equal_ops.result)) (ap (λ (s : StateValue). s.named) c.self.view_is)
    (found_is c.self.inside.log c.args.op.now c.in-Some.there.now c.equal_ops.result (ap option_copied (sym c.in-Some.is) ∙ c.get.ensures ∙ ap (fin.get c.self.inside.log) c.dot.ensures.value) c.equal_ops.ensures)

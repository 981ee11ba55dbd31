use Rattle.std.proofs.Common.{ℕ, List, subst, ◌∙◌}
use Rattle.std.specs.Result.{OnOk}
use Rattle.text_csv.specs.Writing.{AddsField}
use Rattle.text_csv.proofs.field.put_gain.Goals as goal

pub returns : goal.returns
returns g c =
    subst (λ (t : List ℕ). OnOk c.put_text.result (AddsField c.args.writer.now c.put_text.new.writer t))
    (c.deref.ensures.value ∙ c.in_ok-text.ensures) c.put_text.ensures

use Rattle.std.proofs.Common.{ℕ, List, subst, ap, ◌++◌, ◌∙◌}
use Rattle.std.specs.Result.{OnOk}
use Rattle.text_csv.specs.Writing.{AddsField}
use Rattle.mt_stamp.specs.Texts.{stamp_text}
use Rattle.text_csv.proofs.field.put_stamp.Goals as goal

pub returns : goal.returns
returns g c =
    subst (λ (t : List ℕ). OnOk c.put_text.result (AddsField c.args.writer.now c.put_text.new.writer t))
    (c.as_bytes.ensures.value ∙ c.in_ok-append_text.ensures.ok
    ∙ ap (λ (t : List ℕ). t ++ stamp_text c.args.stamp) c.new-text.ensures.bytes) c.put_text.ensures

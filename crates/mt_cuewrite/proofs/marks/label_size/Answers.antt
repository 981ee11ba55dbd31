use Rattle.std.proofs.Common.{ℕ, List, ◌+◌, length, sym, ap, ◌∙◌}
use Rattle.mt_cuewrite.specs.File.{label_content}
use Rattle.mt_cuewrite.proofs.Sizing.{length-label_content}
use Rattle.mt_cuewrite.proofs.marks.label_size.Goals as goal

pub returns-clause-value : goal.returns-clause-value
returns-clause-value g c = λ name.
    ap (λ (t : List ℕ). length t + 5) c.text.ensures.text ∙ sym (length-label_content name _) ∙ ap (λ (m : _). length (label_content name m)) c.marker.view_is

use Rattle.std.proofs.Common.{ℕ, List, length, min, take, ap, ◌∙◌}
use Rattle.std.specs.Str.Lossy.{utf8_valid_len}
use Rattle.text_cues.proofs.Titles.{cut_at}
use Rattle.text_cues.proofs.title.cut_short.Goals as goal

pub returns : goal.returns
returns g c =
    c.truncate.ensures.items
    ∙ cut_at c.args.text.now.items c.valid_len-end.result c.min-most.result (c.min-most.ensures ∙ ap (λ (bs : List ℕ). min (length bs) 255) c.as_slice-whole.ensures.value)
    (c.valid_len-end.ensures.value ∙ ap (λ (bs : List ℕ). utf8_valid_len (take c.min-most.result bs)) c.as_slice-whole.ensures.value)

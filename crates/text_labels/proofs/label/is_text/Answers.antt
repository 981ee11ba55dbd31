use Rattle.std.proofs.Common.{◌∙◌}
use Rattle.text_labels.proofs.Words.{told}
use Rattle.text_labels.proofs.label.is_text.Goals as goal

pub returns : goal.returns
returns c = c.is_ok.ensures.value ∙ told _ _ c.args.bytes.now c.from_utf8.result c.from_utf8.ensures.cases

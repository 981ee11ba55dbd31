use Rattle.std.proofs.Common.{[], ◌∷◌, ◌++◌, ap, ◌∙◌}
use Rattle.std.specs.Prelude.{codes}
use Rattle.std.proofs.lemmas.Result.{on_ok_weaker}
use Rattle.mt_sessionview.specs.SessionText.{newline}
use Rattle.text_cues.specs.Title.{shown}
use Rattle.text_cues.proofs.Words.{when_ok}
use Rattle.text_edl.proofs.Words.{three_pieces}
use Rattle.text_edl.proofs.line.append_name.Goals as goal

pub returns : goal.returns
returns g c =
    on_ok_weaker c.extend_from_slice-2.result
    (three_pieces c.args.text.now.items c.extend_from_slice.new.self.items c.append_shown.new.text.items c.extend_from_slice-2.new.self.items
    (codes "* FROM CLIP NAME: ") (shown c.args.name.now) (newline ∷ [])
    c.in_ok-extend_from_slice.ensures.items
    (c.in_ok-append_shown.ensures ∙ ap (λ bs. c.extend_from_slice.new.self.items ++ shown bs) c.as_bytes.ensures.value))
    (when_ok c.extend_from_slice-2.result c.append_shown.new.text.items c.extend_from_slice-2.new.self.items (newline ∷ []) c.extend_from_slice-2.ensures.items)

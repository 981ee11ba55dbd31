use Rattle.std.proofs.Common.{◌∷◌, [], ◌++◌, ◌∙◌, ap}
use Rattle.std.specs.Prelude.{codes}
use Rattle.std.specs.Fmt.{decimal}
use Rattle.std.proofs.lemmas.Result.{on_ok_weaker}
use Rattle.mt_sessionview.specs.SessionText.{newline}
use Rattle.text_cues.proofs.Words.{five_pieces, when_ok}
use Rattle.text_cues.proofs.marker.append_marker_line.Goals as goal

pub returns : goal.returns
returns g c =
    on_ok_weaker c.extend_from_slice-4.result
    (five_pieces c.args.text.now.items c.extend_from_slice.new.self.items c.append_decimal.new.text.items c.extend_from_slice-2.new.self.items
    c.extend_from_slice-3.new.self.items c.extend_from_slice-4.new.self.items
    (codes "add-marker ") (decimal c.args.at) (codes " ") c.args.title.now (newline ∷ [])
    c.in_ok-extend_from_slice.ensures.items (c.in_ok-append_decimal.ensures.ok ∙ ap (λ n. c.extend_from_slice.new.self.items ++ decimal n) c.from.ensures) c.in_ok-extend_from_slice-2.ensures.items c.in_ok-extend_from_slice-3.ensures.items)
    (when_ok c.extend_from_slice-4.result c.extend_from_slice-3.new.self.items c.extend_from_slice-4.new.self.items (newline ∷ []) c.extend_from_slice-4.ensures.items)

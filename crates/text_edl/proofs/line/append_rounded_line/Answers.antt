use Rattle.std.proofs.Common.{ℕ, [], ◌∷◌, ◌++◌, ap, ◌∙◌}
use Rattle.std.specs.Prelude.{codes, ◌+◌, ◌-◌}
use Rattle.std.specs.Fmt.{decimal}
use Rattle.std.proofs.lemmas.Result.{on_ok_weaker}
use Rattle.mt_sessionview.specs.SessionText.{newline}
use Rattle.text_cues.proofs.Words.{when_ok}
use Rattle.text_edl.specs.EditList.{positions}
use Rattle.text_edl.proofs.Words.{seven_pieces}
use Rattle.text_edl.proofs.line.append_rounded_line.Goals as goal

pub returns : goal.returns
returns g c =
    let e = c.args.event.now in
    on_ok_weaker c.extend_from_slice-4.result
    (seven_pieces c.args.text.now.items c.extend_from_slice.new.self.items c.append_positions.new.text.items c.extend_from_slice-2.new.self.items
    c.append_positions-2.new.text.items c.extend_from_slice-3.new.self.items c.append_decimal.new.text.items c.extend_from_slice-4.new.self.items
    (codes "* ROUNDED: SOURCE ") (positions e.offset (e.offset + (e.end - e.start))) (codes ", RECORD ") (positions e.start e.end)
    (codes ", FRAMES AT ") (decimal c.args.rate) (newline ∷ [])
    c.in_ok-extend_from_slice.ensures.items
    (rw c.saturating_sub.ensures at c.in_ok-append_positions.ensures)
    c.in_ok-extend_from_slice-2.ensures.items c.in_ok-append_positions-2.ensures c.in_ok-extend_from_slice-3.ensures.items
    (c.in_ok-append_decimal.ensures.ok ∙ ap (λ (n : ℕ). c.extend_from_slice-3.new.self.items ++ decimal n) c.from.ensures))
    (when_ok c.extend_from_slice-4.result c.append_decimal.new.text.items c.extend_from_slice-4.new.self.items (newline ∷ []) c.extend_from_slice-4.ensures.items)

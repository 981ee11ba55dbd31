use Rattle.std.proofs.Common.{refl}
use Rattle.text_cues.proofs.Showing.{showing_last, showing_more}
use Rattle.text_cues.proofs.title.append_shown.Goals as goal

pub returns-then-valid-rest : goal.returns-then-valid-rest
returns-then-valid-rest g c =
    showing_last c.args.text.now.items c.chunks.text.items c.append_kept.new.text.items c.args.bytes.now c.chunks.rest.now c.valid_len-valid.result
    c.valid_len-valid.ensures.value c.if-valid-rest.true c.chunks.invariant c.in_ok-append_kept.ensures

pub chunks-preserved : goal.chunks-preserved
chunks-preserved g c =
    showing_more c.args.text.now.items c.chunks.text.items c.append_kept.new.text.items c.append_escaped.new.text.items c.args.bytes.now c.chunks.rest.now _ _
    c.valid_len-valid.result _ _ c.valid_len-valid.ensures.value c.if-valid-rest.false c.chunks.invariant refl refl refl refl
    c.in_ok-append_kept.ensures c.in_ok-append_escaped.ensures

use Rattle.std.proofs.Common.{map, sym, ap, ◌∙◌, ◌+◌}
use Rattle.std.specs.Prelude.{None}
use Rattle.mt_bwfread.specs.Cues.{cue_text}
use Rattle.text_cues.specs.Marker.{line_count}
use Rattle.text_cues.specs.CueLines.{lines_from}
use Rattle.text_cues.proofs.Lining.{caused, lined_fault, lined_more}
use Rattle.text_cues.proofs.script.lines_of.Goals as goal

pub returns-in-Some-clause-err : goal.returns-in-Some-clause-err
returns-in-Some-clause-err g c =
    caused (lines_from 0 c.args.line c.args.at (map cue_text c.args.cues.now)) c.in-Some.fault
    (lined_fault cue_text c.args.cues.now (record { name = 0; at = 0; length = None; label = None }) c.args.at c.loop-index.index c.loop-index.next (c.from.result + c.from-in-loop-index.result) c.loop-index.text.items _
    c.loop-index-test.true (λ i. c.from.ensures i + c.from-in-loop-index.ensures i) c.loop-index.invariant c.in-Some.fault (sym c.in-Some.is ∙ c.fault_of.ensures.value))

pub loop-index-preserved : goal.loop-index-preserved
loop-index-preserved g c =
    lined_more cue_text c.args.cues.now _ c.args.at c.loop-index.index c.loop-index.next (c.from.result + c.from-in-loop-index.result) c.loop-index.text.items _
    c.loop-index-test.true (λ i. c.from.ensures i + c.from-in-loop-index.ensures i) c.loop-index.invariant c.append_cue.new.text.items _ (sym c.in_default.is ∙ c.fault_of.ensures.value)
    c.in_ok-append_cue.ensures (ap (λ n. c.loop-index.next + n) (c.marker_line_count.ensures ∙ ap line_count c.length_of.ensures))

-- The lines of the cue points below the index are there, and the others follow.
use Rattle.std.proofs.Common.{◌≡◌, drop, map}
use Rattle.mt_bwfread.specs.Cues.{cue_text}
use Rattle.text_cues.specs.CueLines.{before, lines_from}
use Rattle.text_cues.proofs.script.lines_of.Given as goal

abbrev pub invariant-loop-index : goal.invariant-loop-index
invariant-loop-index g l =
    before l.text.items (lines_from l.index l.next l.at (drop l.index (map cue_text l.cues)))
    ≡ lines_from 0 l.line l.at (map cue_text l.cues)

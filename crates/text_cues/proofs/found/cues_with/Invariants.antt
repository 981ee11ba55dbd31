use Rattle.std.proofs.Common.{◌≡◌, map, take}
use Rattle.mt_bwfread.specs.Cues.{cues_of, cue_text}
use Rattle.text_cues.proofs.found.cues_with.Given as goal

abbrev pub invariant-loop-index : goal.invariant-loop-index
invariant-loop-index g l = map cue_text l.cues.items ≡ take l.index (cues_of l.wave)

-- The lines of the columns below this one are there.
use Rattle.mt_svg.specs.Adding.{Adds}
use Rattle.mt_svg.specs.Peaks.{lines}
use Rattle.mt_svg.proofs.peaks.append_lines.Given as goal

abbrev pub invariant-loop-unit : goal.invariant-loop-unit
invariant-loop-unit g l = Adds l.initial.text l.text (lines l.wave l.span l.clip l.unit)

use Rattle.mt_svg.specs.Peaks.{line, reach, column_peak}
use Rattle.std.proofs.Common.{ℕ}
use Rattle.mt_svg.proofs.Gathering.{number_more}
use Rattle.mt_svg.proofs.peaks.append_lines.Goals as goal

pub loop-unit-preserved : goal.loop-unit-preserved
loop-unit-preserved g c =
    number_more (λ (k : ℕ). line k (reach (column_peak c.args.wave.now c.args.span c.args.clip.now k))) c.loop-unit.unit c.loop-unit.invariant
    (rw c.column_reach-reach.ensures.value at c.in_ok-append_line.ensures)

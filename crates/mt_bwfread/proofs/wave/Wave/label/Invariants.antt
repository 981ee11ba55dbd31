use Rattle.std.proofs.Common.{◌≡◌}
use Rattle.mt_bwfread.specs.Cues.{labels_of, first_for}
use Rattle.mt_bwfread.proofs.wave.Wave.label.Given as goal

abbrev pub invariant-loop-label : goal.invariant-loop-label
invariant-loop-label l =
    (goal.iterator-loop-label).can_next l.label-iterator
    × (goal.iterator-loop-label).is_finite l.label-iterator
    × (first_for l.name l.label-iterator ≡ first_for l.name (labels_of l.self))

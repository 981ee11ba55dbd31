use Rattle.std.proofs.Common.{◌≡◌}
use Rattle.mt_bwfread.specs.Cues.{lengths_of, first_for}
use Rattle.mt_bwfread.proofs.wave.Wave.length.Given as goal

abbrev pub invariant-loop-said : goal.invariant-loop-said
invariant-loop-said l =
    (goal.iterator-loop-said).can_next l.said-iterator
    × (goal.iterator-loop-said).is_finite l.said-iterator
    × (first_for l.name l.said-iterator ≡ first_for l.name (lengths_of l.self))

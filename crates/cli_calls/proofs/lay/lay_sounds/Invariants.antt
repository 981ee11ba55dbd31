-- The lines of the recordings below the index are there, and the others follow.
use Rattle.std.proofs.Common.{◌≡◌, drop}
use Rattle.std.specs.String.{string_bytes}
use Rattle.cli_calls.specs.Laying.{behind, laid_from, laid}
use Rattle.cli_calls.proofs.lay.lay_sounds.Given as goal

abbrev pub invariant-loop-index : goal.invariant-loop-index
invariant-loop-index g l = behind (string_bytes l.text) (laid_from l.laying l.index l.at (drop l.index l.sounds)) ≡ laid l.laying l.sounds

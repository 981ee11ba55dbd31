use Rattle.std.proofs.Common.{◌≡◌, take}
use Rattle.std.specs.Prelude.{map}
use Rattle.std.specs.List.{zip}
use Rattle.cli_calls.specs.SourcesListing.{given}
use Rattle.cli_calls.proofs.source_list.given_files.Given as goal

abbrev pub invariant-loop-place : goal.invariant-loop-place
invariant-loop-place g l = l.files.items ≡ map given (take l.place (zip (map (λ n. n.now) l.names) l.recordings))

-- The lines of the shares below the place are there.
use Rattle.std.proofs.Common.{◌≡◌, ◌++◌, take}
use Rattle.std.specs.List.{flat_map, zip}
use Rattle.std.specs.Prelude.{map}
use Rattle.std.specs.String.{string_bytes}
use Rattle.cli_calls.specs.Pulling.{share_line}
use Rattle.cli_calls.proofs.pull.append_shares.Given as goal

abbrev pub invariant-loop-place : goal.invariant-loop-place
invariant-loop-place g l = string_bytes l.text ≡ string_bytes l.initial.text ++ flat_map share_line (take l.place (zip (map (λ n. n.now) l.names) l.shares))

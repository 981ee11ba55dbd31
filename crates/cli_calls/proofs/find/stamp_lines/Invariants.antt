-- The lines of the stamps below the index are there.
use Rattle.std.proofs.Common.{◌≡◌, take}
use Rattle.std.specs.String.{string_bytes}
use Rattle.cli_calls.specs.Finding.{stamp_lines}
use Rattle.cli_calls.proofs.find.stamp_lines.Given as goal

abbrev pub invariant-loop-stamp : goal.invariant-loop-stamp
invariant-loop-stamp g l = string_bytes l.text ≡ stamp_lines (take l.stamp-index l.stamps)

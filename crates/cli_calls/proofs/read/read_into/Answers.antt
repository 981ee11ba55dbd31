use Rattle.std.proofs.Common.{rules}
use Rattle.std.proofs.KnownBytes.{Consumes-trans}
use Rattle.cli_calls.proofs.read.read_into.Goals as goal

-- the piece that found no room was consumed too
pub returns-in_err-extend_from_slice-clause-rest : goal.returns-in_err-extend_from_slice-clause-rest
returns-in_err-extend_from_slice-clause-rest g c =
    ((_, Consumes-trans _ _ _ _ _ c.loop-count.invariant.come c.in-Ok.ensures.bytes.0), search rules)

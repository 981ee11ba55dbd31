use Rattle.mt_preflight.proofs.Told.{unwritten_has_a_line}
use Rattle.mt_preflight.proofs.laws.unwritten_markers.Goals as goal

pub returns : goal.returns
returns c = unwritten_has_a_line

use Rattle.mt_preflight.proofs.HeldLines.{held_have_a_line}
use Rattle.mt_preflight.proofs.laws.held_operations.Goals as goal

pub returns : goal.returns
returns c = held_have_a_line

use Rattle.mt_preflight.proofs.Silent.{covered_is_silent}
use Rattle.mt_preflight.proofs.laws.covered_clips.Goals as goal

pub returns : goal.returns
returns c = covered_is_silent

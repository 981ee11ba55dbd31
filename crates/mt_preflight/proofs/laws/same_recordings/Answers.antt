use Rattle.mt_preflight.proofs.Alike.{only_audible_are_told}
use Rattle.mt_preflight.proofs.laws.same_recordings.Goals as goal

pub returns : goal.returns
returns c = only_audible_are_told

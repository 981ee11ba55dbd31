use Rattle.mt_cuewrite.proofs.Alike.{only_audible_are_written}
use Rattle.mt_cuewrite.proofs.laws.same_recordings.Goals as goal

pub returns : goal.returns
returns c = only_audible_are_written

use Rattle.mt_render.proofs.Alike.{only_audible_count}
use Rattle.mt_render.proofs.laws.same_recordings.Goals as goal

pub returns : goal.returns
returns c = only_audible_count

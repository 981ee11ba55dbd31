use Rattle.mt_mending.proofs.Found.{clips_are_found}
use Rattle.mt_mending.proofs.laws.found_clips.Goals as goal

pub returns : goal.returns
returns c = clips_are_found

use Rattle.mt_mending.proofs.Items.{clips_are_mended}
use Rattle.mt_mending.proofs.laws.mended_clips.Goals as goal

pub returns : goal.returns
returns c o r track noted = clips_are_mended o r noted track

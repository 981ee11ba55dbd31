use Rattle.mt_mending.proofs.Items.{markers_are_mended}
use Rattle.mt_mending.proofs.laws.mended_markers.Goals as goal

pub returns : goal.returns
returns c o r noted = markers_are_mended o r noted

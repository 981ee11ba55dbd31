use Rattle.mt_mending.proofs.Found.{markers_are_found}
use Rattle.mt_mending.proofs.laws.found_markers.Goals as goal

pub returns : goal.returns
returns c = markers_are_found

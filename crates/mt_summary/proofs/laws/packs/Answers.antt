use Rattle.mt_summary.proofs.Cutting.{are_packs}
use Rattle.mt_summary.proofs.laws.packs.Goals as goal

pub returns : goal.returns
returns c = are_packs

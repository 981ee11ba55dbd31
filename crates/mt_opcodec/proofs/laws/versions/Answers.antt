use Rattle.mt_opcodec.proofs.Versions.{is_greatest}
use Rattle.mt_opcodec.proofs.laws.versions.Goals as goal

pub returns : goal.returns
returns c = is_greatest

use Rattle.mt_opcodec.proofs.Union.{union_is_union}
use Rattle.mt_opcodec.proofs.laws.unions.Goals as goal

pub returns : goal.returns
returns c = union_is_union

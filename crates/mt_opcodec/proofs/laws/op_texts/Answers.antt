use Rattle.mt_opcodec.proofs.Operations.{op_text-apart}
use Rattle.mt_opcodec.proofs.laws.op_texts.Goals as goal

pub returns : goal.returns
returns c = op_text-apart

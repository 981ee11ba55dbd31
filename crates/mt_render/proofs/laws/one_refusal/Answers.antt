use Rattle.mt_render.proofs.OneAnswer.{has_one_answer}
use Rattle.mt_render.proofs.laws.one_refusal.Goals as goal

pub returns : goal.returns
returns c = has_one_answer

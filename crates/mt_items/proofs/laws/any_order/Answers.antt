use Rattle.mt_items.proofs.AnyOrder.{answer_alike}
use Rattle.mt_items.proofs.laws.any_order.Goals as goal

pub returns : goal.returns
returns c = λ r u noted moved. answer_alike r u noted moved

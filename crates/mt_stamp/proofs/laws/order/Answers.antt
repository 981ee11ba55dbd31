use Rattle.mt_stamp.proofs.Order.{orders}
use Rattle.mt_stamp.proofs.laws.order.Goals as goal

pub returns : goal.returns
returns c = orders

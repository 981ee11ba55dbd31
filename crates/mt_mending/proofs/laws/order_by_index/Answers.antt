use Rattle.mt_mending.proofs.PlaceOrder.{indexes_tell_the_order}
use Rattle.mt_mending.proofs.laws.order_by_index.Goals as goal

pub returns : goal.returns
returns c = indexes_tell_the_order

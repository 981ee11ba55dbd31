use Rattle.mt_mending.proofs.Places.{order_same}
use Rattle.mt_mending.proofs.laws.places_stay.Goals as goal

pub returns : goal.returns
returns c o r a b noted a_noted b_noted = order_same o r noted a b a_noted b_noted

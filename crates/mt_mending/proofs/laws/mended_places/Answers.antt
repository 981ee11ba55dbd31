use Rattle.mt_mending.proofs.PlaceOrder.{places_are_mended}
use Rattle.mt_mending.proofs.laws.mended_places.Goals as goal

pub returns : goal.returns
returns c o r noted = places_are_mended o r noted

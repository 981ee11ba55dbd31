use Rattle.mt_sessionview.proofs.SameSession.{any_listing_same}
use Rattle.mt_sessionview.proofs.laws.any_listing.Goals as goal

pub returns : goal.returns
returns c = any_listing_same

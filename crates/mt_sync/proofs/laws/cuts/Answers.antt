use Rattle.mt_sync.proofs.Cuts.{cuts_do_not_matter}
use Rattle.mt_sync.proofs.laws.cuts.Goals as goal

pub returns : goal.returns
returns c = cuts_do_not_matter

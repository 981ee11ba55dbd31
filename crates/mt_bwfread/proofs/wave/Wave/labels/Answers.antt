use Rattle.mt_bwfread.proofs.Listing.{all_labels}
use Rattle.mt_bwfread.proofs.wave.Wave.labels.Goals as goal

pub returns : goal.returns
returns c = all_labels c.self.inside c.args.self.now c.self.invariant c.self.view_is

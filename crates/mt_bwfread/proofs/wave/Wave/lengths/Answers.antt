use Rattle.mt_bwfread.proofs.Listing.{all_lengths}
use Rattle.mt_bwfread.proofs.wave.Wave.lengths.Goals as goal

pub returns : goal.returns
returns c = all_lengths c.self.inside c.args.self.now c.self.invariant c.self.view_is

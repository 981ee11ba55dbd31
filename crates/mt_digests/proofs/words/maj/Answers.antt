use Rattle.mt_digests.proofs.Choosing.{majority}
use Rattle.mt_digests.proofs.words.maj.Goals as goal

pub returns : goal.returns
returns c = majority c.args.x c.args.y c.args.z

use Rattle.mt_script.proofs.Cuts.{split_is_cut}
use Rattle.std.proofs.Common.{arith}
use Rattle.mt_script.proofs.words.cut_gain.Goals as goal

pub returns : goal.returns
returns c = split_is_cut 47 _ _ (omega arith) c.split_once.ensures.cases

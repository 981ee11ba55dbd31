use Rattle.mt_bwfread.proofs.Splitting.{found}
use Rattle.mt_bwfread.proofs.laws.walk_finds.Goals as goal

pub returns : goal.returns
returns c = λ bytes cs chunks. (found bytes cs chunks).0

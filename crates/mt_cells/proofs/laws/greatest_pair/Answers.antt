use Rattle.mt_cells.specs.Greater.{written_total}
use Rattle.mt_cells.proofs.Greatest.{keeps_greatest}
use Rattle.mt_cells.proofs.laws.greatest_pair.Goals as goal

pub returns : goal.returns
returns g c = keeps_greatest (written_total g.met.T.Ord.total)

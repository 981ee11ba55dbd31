use Rattle.mt_svg.proofs.Columns.{by_units}
use Rattle.mt_svg.proofs.laws.columns_by_units.Goals as goal

pub returns : goal.returns
returns c = by_units

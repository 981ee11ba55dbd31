use Rattle.std.proofs.Common.{None}
use Rattle.mt_summary.proofs.Unique.{run_ends}
use Rattle.mt_summary.proofs.laws.runs.Goals as goal

pub returns : goal.returns
returns c = λ summary i n is at. run_ends None summary i n is at

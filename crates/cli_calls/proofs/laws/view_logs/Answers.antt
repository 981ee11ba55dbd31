use Rattle.cli_calls.specs.Viewing.{log_view}
use Rattle.cli_calls.proofs.Promises.{writes_union}
use Rattle.cli_calls.proofs.laws.view_logs.Goals as goal

pub returns : goal.returns
returns g c = λ before after result ran. writes_union g.R.Read.remaining g.W.Write.contents log_view before after result ran

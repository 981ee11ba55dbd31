use Rattle.cli_calls.proofs.Promises.{writes_file}
use Rattle.cli_calls.proofs.laws.bounce_logs.Goals as goal

pub returns : goal.returns
returns g c = λ layout head before after result ran. writes_file g.R.Read.remaining g.W.Write.contents layout head before after result ran

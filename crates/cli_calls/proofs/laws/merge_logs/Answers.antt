use Rattle.cli_calls.specs.Reading.{text_of}
use Rattle.cli_calls.proofs.Promises.{writes_union}
use Rattle.cli_calls.proofs.laws.merge_logs.Goals as goal

pub returns : goal.returns
returns g c = λ before after result ran. writes_union g.R.Read.remaining g.W.Write.contents text_of before after result ran

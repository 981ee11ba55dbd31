use Rattle.cli_calls.proofs.Promises.{writes_info}
use Rattle.cli_calls.proofs.laws.write_info.Goals as goal

pub returns : goal.returns
returns g c = λ bytes before after result wrote. writes_info g.W.Write.contents bytes before after result wrote

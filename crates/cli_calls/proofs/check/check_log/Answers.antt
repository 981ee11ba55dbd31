use Rattle.cli_calls.specs.Checking.{Checks, ChecksProgramme, GaveLogAndWaves, GaveProgramme, LogAndWavesCause}
use Rattle.cli_calls.specs.Reading.{AreRead}
use Rattle.cli_calls.specs.Running.{lent}
use Rattle.cli_calls.proofs.Checking.{turned}
use Rattle.cli_calls.proofs.Running.{ran_as}
use Rattle.cli_calls.proofs.check.check_log.Goals as goal

pub returns : goal.returns
returns g c =
    let read = g.R.Read.remaining in
    let head = c.args.head.now in
    ran_as (GaveProgramme read {A = g.row.A.Denot}) (GaveLogAndWaves read) (LogAndWavesCause read) (AreRead read) (ChecksProgramme c.args.form c.args.format head) (Checks c.args.form c.args.format head) g.W.Write.contents (lent c.args.inputs.now c.args.output.now)
    (lent c.run.new.inputs c.run.new.output) (λ p gave. turned read c.args.form c.args.format head c.args.inputs.now p gave) c.run.result c.run.ensures

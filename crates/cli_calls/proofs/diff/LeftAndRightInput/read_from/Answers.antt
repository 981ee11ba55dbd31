use Rattle.cli_calls.proofs.Readers.{right_cause}
use Rattle.cli_calls.proofs.diff.LeftAndRightInput.read_from.Goals as goal

pub returns-in-Err-read_log_of-clause-err : goal.returns-in-Err-read_log_of-clause-err
returns-in-Err-read_log_of-clause-err g c =
    right_cause g.R.Read.remaining c.args.inputs.now c.index-inputs-0.result c.index-inputs-1.result c.read_log_of.new.input c.read_log_of-2.new.input c.in-Err-read_log_of.fault c.in-Ok.log c.requires.fits
    c.in-Ok.ensures.ok c.in-Ok.ensures.read c.in-Err-read_log_of.ensures.err

use Rattle.cli_calls.proofs.Readers.{other_cause}
use Rattle.cli_calls.proofs.both.LogThenBytesInput.read_from.Goals as goal

pub returns-in-Err-read_all-clause-err : goal.returns-in-Err-read_all-clause-err
returns-in-Err-read_all-clause-err g c =
    other_cause g.R.Read.remaining c.args.inputs.now c.index-inputs-0.result c.index-inputs-1.result c.read_log.new.input c.read_all.new.input c.in-Err-read_all.fault c.in-Ok.log c.requires.fits
    c.in-Ok.ensures.ok c.in-Ok.ensures.read c.in-Err-read_all.ensures.err c.in-Err-read_all.ensures.rest

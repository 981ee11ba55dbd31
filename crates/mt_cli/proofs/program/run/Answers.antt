use Rattle.std.proofs.Common.{◌≡◌}
use Rattle.mt_cli.proofs.Stopping.{kept_by}
use Rattle.mt_cli.proofs.program.run.Goals as goal

pub returns-in-Some-clause-untouched_input : goal.returns-in-Some-clause-untouched_input
returns-in-Some-clause-untouched_input g c = kept_by c.print-done.result c.explained.result (c.print-done.new.input ≡ c.args.input.now) c.explained.ensures c.print-done.ensures.untouched_input

pub returns-in-Some-clause-untouched_output : goal.returns-in-Some-clause-untouched_output
returns-in-Some-clause-untouched_output g c = kept_by c.print-done.result c.explained.result (c.print-done.new.output ≡ c.args.output.now) c.explained.ensures c.print-done.ensures.untouched_output

use Rattle.mt_opcodec.proofs.Sets.{logged_set}
use Rattle.cli_calls.proofs.laws.log_in_memory.Goals as goal

pub returns-clause-is_set : goal.returns-clause-is_set
returns-clause-is_set g c = logged_set c.args.log.now c.logs_in_memory.ensures.valid c.logs_in_memory.ensures.own_dots

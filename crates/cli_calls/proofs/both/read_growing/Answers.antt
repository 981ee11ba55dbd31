use Rattle.cli_calls.proofs.both.read_growing.Goals as goal

pub returns-in-Ok-new-clause-ok : goal.returns-in-Ok-new-clause-ok
returns-in-Ok-new-clause-ok g c = (c.in-Ok.log, (c.in-Ok.ensures.ok, c.in-Ok-new.ensures))

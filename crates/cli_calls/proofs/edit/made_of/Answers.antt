use Rattle.cli_calls.proofs.edit.made_of.Goals as goal

pub returns-clause-ok : goal.returns-clause-ok
returns-clause-ok g c = (c.in-Some.log, (c.in-Some.is, (c.in-Ok.ensures.ok, c.in_ok-text.ensures)))

use Rattle.mt_cli.specs.Telling.{TellsCauses}
use Rattle.mt_cli.proofs.commands.serve.serve_all.Given as goal

abbrev pub invariant-loop : goal.invariant-loop
invariant-loop g l = TellsCauses g.E.Write.contents l.fn.asked l.fn.errors l.errors

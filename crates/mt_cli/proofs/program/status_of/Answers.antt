use Rattle.std.proofs.Common.{sym, ◌∙◌}
use Rattle.mt_cli.specs.Telling.{asks_why}
use Rattle.mt_cli.proofs.Telling.{cause_told}
use Rattle.mt_cli.proofs.program.status_of.Goals as goal

pub returns-then-asks_why-clause-told : goal.returns-then-asks_why-clause-told
returns-then-asks_why-clause-told g c =
    cause_told g.E.Write.contents (asks_why c.args.words.now) c.args.fault c.args.errors.now c.put_cause.new.errors c.args.why.now (sym c.asks_why.ensures ∙ c.if-asks_why.true) c.put_cause.ensures

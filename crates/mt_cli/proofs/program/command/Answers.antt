use Rattle.mt_cli.specs.Telling.{asks_why}
use Rattle.mt_cli.proofs.Telling.{text_behind, refusal_behind}
use Rattle.mt_cli.proofs.program.command.Goals as goal

pub returns-in-Err-Told-clause-mistaken : goal.returns-in-Err-Told-clause-mistaken
returns-in-Err-Told-clause-mistaken g c = search (text_behind g.E.Write.contents (asks_why c.args.words.now) c.args.errors.now c.run.new.errors c.put_text.new.errors c.run.ensures.told (_, c.put_text.ensures))

pub returns-in-Err-Told-2-clause-refused : goal.returns-in-Err-Told-2-clause-refused
returns-in-Err-Told-2-clause-refused g c = search (refusal_behind g.E.Write.contents (asks_why c.args.words.now) _ c.args.errors.now c.run.new.errors c.not_printed.new.errors c.run.ensures.told c.not_printed.ensures.told)

pub returns-clause-refused : goal.returns-clause-refused
returns-clause-refused g c = search (refusal_behind g.E.Write.contents (asks_why c.args.words.now) _ c.args.errors.now c.run.new.errors c.status_of.new.errors c.run.ensures.told c.status_of.ensures.told)

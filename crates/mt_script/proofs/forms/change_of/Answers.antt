use Rattle.mt_script.proofs.Asked.{asks_what_it_says, asks_nothing}
use Rattle.mt_script.proofs.forms.change_of.Goals as goal

pub returns-in-Ok : goal.returns-in-Ok
returns-in-Ok g c = rw (asks_what_it_says c.args.items.now c.args.line.now c.in-Ok.line.now c.in-Ok.ensures.cases.1 c.in-Ok.ensures.cases.0) c.said_change.ensures

pub returns-in-Err : goal.returns-in-Err
returns-in-Err g c = asks_nothing c.args.items.now c.args.line.now c.in-Err.ensures.cases.0

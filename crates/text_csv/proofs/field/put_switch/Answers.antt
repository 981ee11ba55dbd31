use Rattle.text_csv.proofs.field.put_switch.Goals as goal

pub returns-then-on : goal.returns-then-on
returns-then-on g c = rw c.if-on.true c.put_text.ensures

pub returns-else-on : goal.returns-else-on
returns-else-on g c = rw c.if-on.false c.put_text-else-on.ensures

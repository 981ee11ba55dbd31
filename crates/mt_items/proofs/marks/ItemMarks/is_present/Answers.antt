use Rattle.mt_items.proofs.OwnTag.{present_own}
use Rattle.mt_items.proofs.marks.ItemMarks.is_present.Goals as goal

pub returns-in-None : goal.returns-in-None
returns-in-None g c = present_own c.self.inside.own c.self.inside.noted c.args.self.now c.self.view_is c.in-None.is

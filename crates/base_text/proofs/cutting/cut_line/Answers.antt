use Rattle.base_text.proofs.Cuts.{line_and_more, last_line}
use Rattle.base_text.proofs.cutting.cut_line.Goals as goal

pub returns-in-Some-clause-lines : goal.returns-in-Some-clause-lines
returns-in-Some-clause-lines c = line_and_more c.args.text.now c.in-Some.at c.in-Some.ensures

pub returns-in-None-clause-lines : goal.returns-in-None-clause-lines
returns-in-None-clause-lines c = last_line c.args.text.now c.requires c.in-None.ensures

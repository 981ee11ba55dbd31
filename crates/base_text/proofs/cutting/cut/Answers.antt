use Rattle.base_text.proofs.Cuts.{found, unfound}
use Rattle.base_text.proofs.cutting.cut.Goals as goal

pub returns-in-Some : goal.returns-in-Some
returns-in-Some c = found c.args.byte c.args.text.now c.in-Some.at c.in-Some.ensures

pub returns-in-None : goal.returns-in-None
returns-in-None c = unfound c.args.byte c.args.text.now c.in-None.ensures

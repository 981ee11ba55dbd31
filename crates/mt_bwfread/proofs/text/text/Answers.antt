use Rattle.mt_bwfread.proofs.Texts.{text_ends, text_goes_on}
use Rattle.mt_bwfread.proofs.text.text.Goals as goal

pub returns-in-Some : goal.returns-in-Some
returns-in-Some c = text_ends c.args.field.now c.in-Some.end c.in-Some.ensures

pub returns-in-None : goal.returns-in-None
returns-in-None c = text_goes_on c.args.field.now c.in-None.ensures

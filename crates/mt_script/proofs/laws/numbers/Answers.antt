use Rattle.mt_script.proofs.Numbers.{numbers_are_spelled}
use Rattle.mt_script.proofs.laws.numbers.Goals as goal

pub returns : goal.returns
returns c = numbers_are_spelled

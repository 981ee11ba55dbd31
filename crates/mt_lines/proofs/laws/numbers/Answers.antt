use Rattle.mt_lines.proofs.Numbers.{numbers_are_spelled}
use Rattle.mt_lines.proofs.laws.numbers.Goals as goal

pub returns : goal.returns
returns c = numbers_are_spelled

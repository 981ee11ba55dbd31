use Rattle.std.proofs.Common.{arith, sym, ◌∙◌, ◌^◌}
use Rattle.mt_script.proofs.Numbers.{below_none, below_some, below_not}
use Rattle.mt_script.proofs.words.small_number_of.Goals as goal

pub returns-in_default : goal.returns-in_default
returns-in_default c = below_none (2 ^ 16) c.args.text.now (omega arith) cc

pub returns-then-number : goal.returns-then-number
returns-then-number c = below_not (2 ^ 16) c.args.text.now c.in-Some.number (sym c.number_of.ensures ∙ c.in-Some.is) (omega arith) (omega arith)

pub returns : goal.returns
returns c = below_some (2 ^ 16) c.args.text.now c.in-Some.number (sym c.number_of.ensures ∙ c.in-Some.is) (omega arith) (omega arith)

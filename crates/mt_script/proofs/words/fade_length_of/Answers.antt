use Rattle.std.proofs.Common.{arith, sym, ◌∙◌, ◌+◌}
use Rattle.mt_op.specs.Valid.{longest_fade}
use Rattle.mt_script.proofs.Numbers.{below_none, below_some, below_not}
use Rattle.mt_script.proofs.words.fade_length_of.Goals as goal

pub returns-in_default : goal.returns-in_default
returns-in_default c = below_none (longest_fade + 1) c.args.text.now (omega arith) cc

pub returns-then-number-gt-LONGEST_FADE : goal.returns-then-number-gt-LONGEST_FADE
returns-then-number-gt-LONGEST_FADE c = below_not (longest_fade + 1) c.args.text.now c.in-Some.number (sym c.number_of.ensures ∙ c.in-Some.is) (omega arith) (omega arith)

pub returns : goal.returns
returns c = below_some (longest_fade + 1) c.args.text.now c.in-Some.number (sym c.number_of.ensures ∙ c.in-Some.is) (omega arith) (omega arith)

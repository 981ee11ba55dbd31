use Rattle.mt_stamp.proofs.Texts.{cut_after_number}
use Rattle.mt_stamp.proofs.text.number_and_rest.Goals as goal

pub returns-in_err-before-clause-only : goal.returns-in_err-before-clause-only
returns-in_err-before-clause-only c =
    λ n rest fits is. let cut = cut_after_number n rest c.args.text.now c.split_once.result fits is c.split_once.ensures.cases in
    absurd (rw c.in_err-before.was at cut)

pub returns-in_err-number-clause-only : goal.returns-in_err-number-clause-only
returns-in_err-number-clause-only c =
    λ n rest fits is. let cut = rw c.in_ok-before.was at (cut_after_number n rest c.args.text.now c.split_once.result fits is c.split_once.ensures.cases) in
    let only = c.in_err-number.ensures.only n fits cut.0 in absurd cc

pub returns-clause-only : goal.returns-clause-only
returns-clause-only c =
    λ n rest fits is. let cut = rw c.in_ok-before.was at (cut_after_number n rest c.args.text.now c.split_once.result fits is c.split_once.ensures.cases) in
    let only = c.in_ok-number.ensures.only n fits cut.0 in
    (cc, cut.1)

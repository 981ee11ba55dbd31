use Rattle.std.proofs.Common.{◌≡◌, ◌+◌, suc, sym, ◌∙◌, subst, ℕ, arith}
use Rattle.mt_holdback.specs.Queue.{is_met_in, MetTo}
use Rattle.mt_holdback.proofs.Needs.{all_step}
use Rattle.mt_holdback.proofs.queue.lacks_at.Goals as goal

pub returns-then-has : goal.returns-then-has
returns-then-has g c = λ before.
    let one_more : suc c.args.i ≡ c.args.i + 1 = omega arith in
    subst (λ (i : ℕ). MetTo g.T.Waits.rules c.args.released.now c.args.item.now i) one_more
    (all_step (is_met_in g.T.Waits.rules c.args.released.now) (g.T.Waits.rules.needs c.args.item.now) c.args.i (c.in_ok-stamp.stamp, c.in_ok-stamp.role)
    (sym c.need.ensures ∙ c.in_ok-stamp.was) (sym c.if-has.ensures) before)

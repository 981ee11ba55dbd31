use Rattle.std.proofs.Common.{◌≡◌, List, sym, subst, ◌∙◌, false}
use Rattle.mt_holdback.specs.HoldBack.{IsHoldBack, knows, with_queued}
use Rattle.mt_holdback.specs.Passing.{after_pass}
use Rattle.mt_holdback.specs.Queue.{contents_of, IsQueueOf}
use Rattle.mt_holdback.proofs.Offers.{taken_in}
use Rattle.mt_holdback.proofs.offer.take_in.Goals as goal

pub admit-requires-clause-order : goal.admit-requires-clause-order
admit-requires-clause-order g c = record {
  rule = subst (λ (waiting : List g.row.T.Denot). IsHoldBack g.T.Waits.rules (record { released = c.args.released.now.items; waiting = waiting })) (sym c.in_ok-queue.ensures.same) c.requires.order.rule;
  works = subst (λ (released : List g.row.T.Denot). IsQueueOf g.T.Waits.rules released c.in_ok-queue.queue) c.deref.ensures.value c.in_ok-queue.ensures.works;
}

pub admit-requires-clause-offer : goal.admit-requires-clause-offer
admit-requires-clause-offer g c = record {
  unknown = subst (λ (waiting : List g.row.T.Denot). knows g.T.Waits.rules (record { released = c.args.released.now.items; waiting = waiting }) (g.T.Waits.rules.key c.args.item) ≡ false) (sym c.in_ok-queue.ensures.same) c.requires.offer.unknown;
  told = c.requires.offer.told;
}

pub returns : goal.returns
returns g c =
    taken_in g.T.Waits.rules (contents_of c.args.released.now.items c.args.waiting) c.args.item c.settle.new.released.items c.settle.new.queue c.requires.order.rule c.requires.offer.unknown c.key.ensures.older
    (c.in_ok-settle.ensures.passed ∙ c.in_ok-admit.ensures.passes ∙ (λ i. after_pass g.T.Waits.rules (with_queued g.T.Waits.rules (record { released = c.args.released.now.items; waiting = c.in_ok-queue.ensures.same i }) c.args.item)))
    c.in_ok-settle.ensures.works

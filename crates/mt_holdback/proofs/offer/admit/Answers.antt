use Rattle.std.proofs.Common.{◌≡◌, List, Some, true, sym, ap, subst, ◌∙◌}
use Rattle.std.specs.Prelude.{OnOk}
use Rattle.mt_holdback.specs.Laws.{is_met_by}
use Rattle.mt_holdback.specs.Passing.{after_pass}
use Rattle.mt_holdback.specs.Queue.{items_of, contents_of, Admitted}
use Rattle.mt_holdback.proofs.Offers.{met_goes_first, on_both, on_three}
use Rattle.mt_holdback.proofs.Queueing.{new_apart}
use Rattle.mt_holdback.proofs.offer.admit.Goals as goal

pub release-requires-clause-apart : goal.release-requires-clause-apart
release-requires-clause-apart g c = new_apart g.T.Waits.rules c.args.released.now.items c.args.queue.now c.args.item c.requires.order.works c.requires.offer.unknown

pub returns-in-None : goal.returns-in-None
returns-in-None g c =
    let takes = met_goes_first g.T.Waits.rules (contents_of c.args.released.now.items (Some c.args.queue.now)) c.args.item c.requires.order.rule
    (subst (λ (released : List g.row.T.Denot). is_met_by g.T.Waits.rules released c.args.item ≡ true) c.deref.ensures.value c.in-None.ensures) in
    on_three c.release.result
    (λ works released same. record { works = works; passes = sym (takes ∙ (λ i. after_pass g.T.Waits.rules (record { released = sym released i; waiting = items_of (sym same i) }))) })
    c.release.ensures.works c.release.ensures.released c.release.ensures.same

pub returns-in-Some : goal.returns-in-Some
returns-in-Some g c =
    subst (λ (released : List g.row.T.Denot). OnOk c.hold.result (Admitted g.T.Waits.rules (contents_of released (Some c.args.queue.now)) c.args.item released c.hold.new.queue)) c.deref-in-Some.ensures.value
    (on_both c.hold.result (λ works queued. record { works = works; passes = ap (after_pass g.T.Waits.rules) queued }) c.hold.ensures.works c.hold.ensures.queued)

use Rattle.std.proofs.Common.{◌≡◌, true, ap, subst, ◌∙◌}
use Rattle.std.specs.BTreeMap.{get, insert_entry}
use Rattle.mt_stamp.specs.StampOrder.{Stamp, stamp_cmp}
use Rattle.mt_holdback.specs.Queue.{listed}
use Rattle.mt_holdback.proofs.Queueing.{put_works, put_items}
use Rattle.mt_holdback.proofs.offer.hold.Goals as goal

pub returns-clause-works : goal.returns-clause-works
returns-clause-works g c =
    put_works g.T.Waits.rules c.args.released.now c.args.queue.now c.args.item c.requires.works c.requires.unknown c.insert.new.self.entries c.args.lack
    (c.in_ok-insert.ensures.entries ∙ ap (λ (k : Stamp). insert_entry stamp_cmp c.args.queue.now.items.entries k (record { item = c.args.item; met = c.args.lack.place })) c.key-key.ensures.value)
    (listed (λ v. v.items) (get stamp_cmp c.put_under.new.lacking)) c.key-key.ensures.older c.requires.lacks c.in_ok-put_under.ensures.stay
    (subst (λ (k : Stamp). listed (λ v. v.items) (get stamp_cmp c.put_under.new.lacking) c.args.lack.stamp k ≡ true) c.key-key.ensures.value c.in_ok-put_under.ensures.there)
    c.insert.ensures.ordered

pub returns-clause-queued : goal.returns-clause-queued
returns-clause-queued g c =
    let put = c.in_ok-insert.ensures.entries ∙ ap (λ (k : Stamp). insert_entry stamp_cmp c.args.queue.now.items.entries k (record { item = c.args.item; met = c.args.lack.place })) c.key-key.ensures.value in
    λ i. record { released = c.args.released.now; waiting = put_items g.T.Waits.rules c.args.released.now c.args.queue.now c.args.item c.requires.works c.requires.unknown c.insert.new.self.entries c.args.lack put i }

use Rattle.std.proofs.Common.{length, List, sym, refl, ap, subst, ◌∙◌, arith}
use Rattle.mt_holdback.specs.Passing.{after_pass}
use Rattle.mt_holdback.specs.Queue.{items_of, IsQueueOf}
use Rattle.mt_holdback.proofs.Queueing.{out_some, none_left}
use Rattle.mt_holdback.proofs.queue.settle.Goals as goal

pub loop-item-init : goal.loop-item-init
loop-item-init g c = record { works = c.requires; passes = refl }

pub next_ready-requires : goal.next_ready-requires
next_ready-requires g c = subst (λ (released : List g.row.T.Denot). IsQueueOf g.T.Waits.rules released c.loop-item.queue) (sym c.deref.ensures.value) c.loop-item.invariant.works

pub release-requires-clause-apart : goal.release-requires-clause-apart
release-requires-clause-apart g c = (out_some g.T.Waits.rules c.in_ok-item.ensures c.in-Some.is c.deref.ensures.value).apart

pub loop-item-smaller : goal.loop-item-smaller
loop-item-smaller g c =
    let shorter = (out_some g.T.Waits.rules c.in_ok-item.ensures c.in-Some.is c.deref.ensures.value).shorter in
    let same = ap length c.in_ok-release.ensures.same in omega (arith, shorter, same)

pub loop-item-preserved : goal.loop-item-preserved
loop-item-preserved g c = record {
  works = c.in_ok-release.ensures.works;
  passes = c.loop-item.invariant.passes ∙ (out_some g.T.Waits.rules c.in_ok-item.ensures c.in-Some.is c.deref.ensures.value).takes
      ∙ (λ i. after_pass g.T.Waits.rules (record { released = sym c.in_ok-release.ensures.released i; waiting = items_of (sym c.in_ok-release.ensures.same i) }));
}

pub returns-clause-passed : goal.returns-clause-passed
returns-clause-passed g c = sym (c.loop-item.invariant.passes ∙ none_left g.T.Waits.rules c.in_ok-item.ensures c.in_default.is c.deref.ensures.value)

use Rattle.std.proofs.Common.{arith}
use Rattle.mt_overlap.proofs.Ordering.{order_is}
use Rattle.mt_overlap.proofs.sweep.by_start.Goals as goal

pub returns : goal.returns
returns g c = record {
  ok = order_is c.args.spans.now c.loop-index.order.items c.sort_unstable.new.self.items (omega (arith, c.loop-index.invariant.0))
      (λ k h. c.loop-index.invariant.1 k (omega arith)) c.sort_unstable.ensures.permutation c.sort_unstable.ensures.sorted;
}

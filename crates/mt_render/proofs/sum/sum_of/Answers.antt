use Rattle.std.proofs.Common.{◌∙◌, arith, rules, to_z, ap, ◌+ℤ◌}
use Rattle.std.specs.Int.{w128}
use Rattle.mt_render.specs.Parts.{all_give}
use Rattle.mt_render.proofs.Adding.{sum_kept}
use Rattle.mt_render.proofs.Summing.{lane_more}
use Rattle.mt_render.proofs.sum.sum_of.Goals as goal

pub loop-lane-preserved : goal.loop-lane-preserved
loop-lane-preserved g c =
    let i = c.loop-lane.lane-index in
    let ls = c.args.lanes.now in
    let l = c.lane-item.result in
    let e = sum_kept (to_z w128 c.loop-lane.sum-bits) c.give.result i c.loop-lane.invariant.1 (search rules) (omega arith) in (
      rw c.from-sum.ensures (e.0 ∙ rw c.give.ensures (ap (λ z. z +ℤ all_give c.args.frame c.args.channel l) c.loop-lane.invariant.0 ∙ lane_more ls i c.args.frame c.args.channel l (omega arith) c.lane-item.is)),
      rw (c.from-sum.ensures, e.0) e.1,
    )

use Rattle.std.proofs.Common.{◌+◌, take, arith}
use Rattle.mt_bwfread.specs.Fill.{at}
use Rattle.mt_render.specs.Parts.{all_give, lanes_give}
use Rattle.mt_render.proofs.Gaining.{gained_more}
use Rattle.mt_render.proofs.Summing.{lane_more}
use Rattle.mt_render.proofs.sum.add_lanes.Goals as goal

pub loop-lane-preserved : goal.loop-lane-preserved
loop-lane-preserved g c k h =
    let ls = c.args.lanes.now in
    let i = c.loop-lane.lane-index in
    let l = c.lane-item.result in
    let f = c.args.first + k in
    let channel = c.args.channel in
    gained_more (at c.args.sums.now k) (at c.loop-lane.sums k) (at c.add.new.sums k) (lanes_give f channel (take i ls)) (all_give f channel l) (lanes_give f channel (take (i + 1) ls))
    (c.loop-lane.invariant k h) (c.add.ensures k (omega arith)) (lane_more ls i f channel l (omega arith) c.lane-item.is)

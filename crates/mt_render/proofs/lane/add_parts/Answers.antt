use Rattle.std.proofs.Common.{◌∙◌, ◌+◌, ap, take, arith, ◌+ℤ◌}
use Rattle.std.specs.Int.{w64, int_wrap}
use Rattle.mt_bwfread.specs.Fill.{at}
use Rattle.mt_render.specs.Parts.{gives, all_give}
use Rattle.mt_render.proofs.Gaining.{stays, gained_more}
use Rattle.mt_render.proofs.Rising.{silent_to, silent_from, starts_from, part_more, read_at}
use Rattle.mt_render.proofs.lane.add_parts.Goals as goal

pub loop-index-init : goal.loop-index-init
loop-index-init c k h =
    stays (at c.args.sums.now k) _ (silent_to c.args.parts.now c.first_behind-index.result (c.args.first + k) c.args.channel
    (λ j p low here. let e = c.first_behind-index.ensures.before j p low here in omega arith))

pub returns-then-part-limit : goal.returns-then-part-limit
returns-then-part-limit c k h =
    let ps = c.args.parts.now in
    let i = c.loop-index.index in
    let q = c.index-parts-index.result in
    let here = read_at ps i q (omega arith) c.index-parts-index.is in
    c.loop-index.invariant k h ∙ ap (λ z. int_wrap w64 (at c.args.sums.now k +ℤ z))
    (silent_from ps i (c.args.first + k) c.args.channel (λ j p high there. let s = starts_from ps i j q p c.requires.rising here high there in omega arith))

pub loop-index-preserved : goal.loop-index-preserved
loop-index-preserved c k h =
    let ps = c.args.parts.now in
    let i = c.loop-index.index in
    let p = c.index-parts-index.result in
    let f = c.args.first + k in
    let channel = c.args.channel in
    gained_more (at c.args.sums.now k) (at c.loop-index.sums k) (at c.add.new.sums k) (all_give f channel (take i ps)) (gives f channel p) (all_give f channel (take (i + 1) ps))
    (c.loop-index.invariant k h) (c.add.ensures k (omega arith)) (part_more ps i f channel p (read_at ps i p (omega arith) c.index-parts-index.is))

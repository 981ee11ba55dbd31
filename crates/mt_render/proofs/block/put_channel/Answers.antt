use Rattle.std.proofs.Common.{◌≢◌, ℕ, ◌+◌, ◌*◌, ◌<◌, ◌≤◌, length, arith, rules, FitsSigned, below_more, get_or-set_other, get_or-set_same, ◌∙◌}
use Rattle.std.proofs.Math.Nat.{mul-le-mul_right}
use Rattle.std.proofs.lemmas.Nat.{mul-add-lt}
use Rattle.std.specs.Int.{w32, w64}
use Rattle.std.proofs.lemmas.Int.{to_z-of_z}
use Rattle.mt_bwfread.specs.Fill.{at}
use Rattle.mt_render.specs.Mix.{output}
use Rattle.mt_render.proofs.Gaining.{narrow_is}
use Rattle.mt_render.proofs.block.put_channel.Goals as goal

earlier : (k i w c : ℕ) → k < i → 0 < w → k * w + c ≢ i * w + c
earlier k i w c h some = let more : (k + 1) * w ≤ i * w = mul-le-mul_right w (omega arith) in omega arith

pub loop-index-preserved : goal.loop-index-preserved
loop-index-preserved c =
    let i = c.loop-index.index in
    let w = c.args.channels in
    let channel = c.args.channel in
    let before = c.loop-index.invariant in
    let room = mul-add-lt i w channel (length c.args.sums.now) (omega arith) c.requires.in_channels in
    let place : i * w + channel < length c.loop-index.samples = omega (arith, c.requires.room) in
    let fits : FitsSigned w32 c.put_out_narrow.result = search rules in
    let sum : FitsSigned w64 (at c.args.sums.now i) = search rules in
    record {
      put = below_more _ _
          (λ k h z narrow same. let ne : k * w + channel ≢ i * w + channel = earlier k i w channel h (omega arith) in rw get_or-set_other (before.put k h z narrow same))
          (λ z narrow same. rw get_or-set_same (to_z-of_z w32 c.put_out_narrow.result fits ∙ narrow_is (output c.args.bits) c.put_out_narrow.result (at c.args.sums.now i) z sum narrow same c.put_out_narrow.ensures));
      others = λ j none. let ne : j ≢ i * w + channel = none i (omega arith) in rw get_or-set_other (before.others j (λ k h. none k (omega arith)));
    }

use Rattle.std.proofs.Common.{◌≡◌, ℕ, ◌+◌, ◌-◌, ◌*◌, ◌/◌, ◌≤◌, length, length-take, length-drop, arith, ◌∙◌, ap, refl}
use Rattle.std.proofs.Math.Nat.{mul-le-mul_right, div-mul-le_self}
use Rattle.mt_render.specs.Mix.{output}
use Rattle.mt_render.specs.Parts.{lanes_give}
use Rattle.mt_render.proofs.Blocks.{pieces}
use Rattle.mt_render.proofs.block.fill_narrow.Goals as goal

next : (a b c : ℕ) → a + b + c ≡ a + (b + c)
next a b c = omega arith

pub loop-done-preserved : goal.loop-done-preserved
loop-done-preserved g c =
    let format = c.args.format in
    let lanes = c.args.lanes.now in
    let first = c.args.first in
    let done = c.loop-done.done in
    let count = c.min-count.result in
    let w = c.from-channels.result in
    let total = length c.args.samples.now in
    let fw = format.channels in
    let new = c.fill_frames.new.samples in
    let width : w ≡ fw = c.from-channels.ensures ∙ c.channels.ensures.value in
    let within : done + count ≤ total / w = omega arith in
    let rows : (done + count) * w ≤ total / w * w = mul-le-mul_right w within in
    let whole : total / w * w ≤ total = div-mul-le_self total w in
    let room : (done + count) * w ≤ length c.loop-done.samples = omega arith in
    let len : length new ≡ (done + count) * w - done * w = simp (length-take, length-drop) at c.fill_frames.auto.samples ∙ omega arith in
    record {
      within = within;
      filled = λ k d low below.
          rw width (pieces c.loop-done.samples new done count fw ((done + count) * fw - done * fw) (λ i e. output format.bits (lanes_give (first + i) e lanes))
          (rw width at room) refl (rw width at len) c.loop-done.invariant.filled
          (λ i e in_count in_width. c.fill_frames.ensures i e in_count in_width ∙ ap (λ m. output format.bits (lanes_give m e lanes)) (next first done i))
          k d low below);
    }

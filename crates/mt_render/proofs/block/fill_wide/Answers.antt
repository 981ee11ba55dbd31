use Rattle.std.proofs.Common.{◌≡◌, ℕ, ◌+◌, ◌/◌, ◌%◌, ◌∙◌, ap, arith}
use Rattle.std.specs.Int.{w32, w128}
use Rattle.std.proofs.lemmas.Int.{to_z-of_z}
use Rattle.mt_render.specs.Mix.{output}
use Rattle.mt_render.specs.Parts.{lanes_give}
use Rattle.mt_render.proofs.Blocks.{filled}
use Rattle.mt_render.proofs.block.fill_wide.Goals as goal

pub loop-index-preserved : goal.loop-index-preserved
loop-index-preserved g c =
    let format = c.args.format in
    let lanes = c.args.lanes.now in
    let channels : c.from-channels.result ≡ format.channels = c.from-channels.ensures ∙ c.channels.ensures.value in
    filled c.loop-index.samples c.loop-index.index c.put_out.result (λ k. output format.bits (lanes_give (c.args.first + k / format.channels) (k % format.channels) lanes))
    (let lt = c.loop-index-test.true in let same = c.loop-index.auto.samples in omega arith)
    (to_z-of_z w32 c.put_out.result (record { sfits = c.put_out.type_inv }))
    (c.put_out.ensures ∙ rw (c.bits-bits.ensures.value, to_z-of_z w128 c.sum_of.result (record { sfits = c.sum_of.type_inv })) (ap (output format.bits)
    (c.sum_of.ensures.value ∙ ap (λ (n : ℕ). lanes_give (c.args.first + c.loop-index.index / n) (c.loop-index.index % n) lanes) channels)))
    c.loop-index.invariant

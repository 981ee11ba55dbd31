use Rattle.std.proofs.Common.{◌≡◌, ◌≢◌, ℕ, ◌+◌, ◌*◌, ◌<◌, inl, inr, length, length-take, take, arith, ◌∙◌, subst, pos}
use Rattle.std.proofs.lemmas.Bool.{cases_lt}
use Rattle.std.proofs.lemmas.List.{length-replicate, get_or-take, get_or-replicate}
use Rattle.std.proofs.lemmas.Nat.{same_from_place}
use Rattle.std.proofs.Math.ListN.{replicate}
use Rattle.std.specs.Int.{w64, int_wrap}
use Rattle.std.specs.Prelude.{ℤ}
use Rattle.mt_bwfread.specs.Fill.{at}
use Rattle.mt_render.specs.Mix.{output}
use Rattle.mt_render.specs.Parts.{lanes_give}
use Rattle.mt_render.specs.Sums.{IsNarrow}
use Rattle.mt_render.proofs.Gaining.{from_silence}
use Rattle.mt_render.proofs.block.fill_frames.Goals as goal

pub loop-channel-preserved : goal.loop-channel-preserved
loop-channel-preserved g c k c' in_frames below =
    let w = c.args.format.channels in
    let bits = c.args.format.bits in
    let channel = c.loop-channel.channel in
    let lanes = c.args.lanes.now in
    let frames = c.args.frames in
    let f = c.args.first + k in
    let new = c.put_channel.new.samples in
    let width : c.from.result ≡ w = c.from.ensures ∙ c.channels-channels.ensures.value in
    let this : c.from-in-loop-channel.result ≡ channel = c.from-in-loop-channel.ensures in
    let size : length c.add_lanes.new.sums ≡ frames = omega (arith, simp (length-take, length-replicate) at c.add_lanes.auto.sums) in
    let others : (j : ℕ) → ((i : ℕ) → i < length c.add_lanes.new.sums → j ≢ i * w + channel) → at new j ≡ at c.loop-channel.samples j = rw (width, this) at c.put_channel.ensures.others in
    let put : (i : ℕ) (z : ℤ) → i < length c.add_lanes.new.sums → IsNarrow z → int_wrap w64 (at c.add_lanes.new.sums i) ≡ int_wrap w64 z → at new (i * w + channel) ≡ output bits z =
    rw (width, this, c.bits-bits.ensures.value) at c.put_channel.ensures.put in
    let in_all : k < 1024 = omega arith in
    let silent : at (take frames (replicate 1024 (pos 0))) k ≡ pos 0 = get_or-take frames (replicate 1024 (pos 0)) k (pos 0) in_frames ∙ get_or-replicate 1024 k (pos 0) (pos 0) in_all in
    elim (cases_lt c' channel) [
      | inl early ↦
          others (k * w + c') (λ j within same. let p = (same_from_place k c' j channel w (omega arith) (omega arith) same).1 in absurd (omega arith))
          ∙ c.loop-channel.invariant k c' in_frames early
      | inr late ↦
          let last : channel ≡ c' = omega arith in
          subst (λ (n : ℕ). at new (k * w + n) ≡ output bits (lanes_give f n lanes)) last
          (put k (lanes_give f channel lanes) (omega arith) (c.requires.narrow f channel)
          (from_silence _ _ (lanes_give f channel lanes) silent (c.add_lanes.ensures k (simp (length-take, length-replicate) (omega arith)))))
    ]

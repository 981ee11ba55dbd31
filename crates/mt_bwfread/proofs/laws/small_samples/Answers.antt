use Rattle.std.proofs.Common.{◌≤◌, ◌^◌, ◌*◌, ◌+◌, subst, List, ℕ}
use Rattle.std.specs.Prelude.{unsigned_abs}
use Rattle.mt_bwfread.specs.Wave.{bits_of, sample_of, channels_of, width_of}
use Rattle.mt_bwfread.proofs.Sizes.{silence_small}
use Rattle.mt_bwfread.proofs.laws.small_samples.Goals as goal

pub returns : goal.returns
unfolding sample_of
returns c frame channel =
    let text = c.wave.inside.text.now in
    let small : unsigned_abs (sample_of text frame channel) ≤ 2 ^ 31 =
    rw c.wave.invariant.samples at (c.scaled_small.ensures (bits_of text) ((frame * channels_of text + channel) * width_of text)) in
    silence_small c.args.wave.now frame channel (subst (λ (l : List ℕ). unsigned_abs (sample_of l frame channel) ≤ 2 ^ 31) c.wave.view_is small)

use Rattle.std.proofs.Common.{◌≡◌, ◌+◌, ◌-◌, ◌*◌, ◌<◌, ◌∙◌, pos, ◌*ℤ◌, arith, length, length-take, length-drop, ap, sym, refl}
use Rattle.std.specs.Prelude.{min}
use Rattle.mt_bwfread.specs.Wave.{channels_of}
use Rattle.mt_bwfread.specs.Fill.{at, sample_or_silence}
use Rattle.mt_render.specs.Mix.{rounded}
use Rattle.mt_render.specs.Fading.{loudness, most}
use Rattle.mt_render.specs.Parts.{gives}
use Rattle.mt_render.proofs.Gaining.{gained_mid, inside}
use Rattle.mt_render.proofs.Rising.{early, late}
use Rattle.mt_render.proofs.part.Part.add_at_once.Goals as goal

pub returns : goal.returns
returns c =
    let p = c.args.self.now in
    let first = c.args.first in
    let from = c.max-from.result in
    let skip = from - first in
    let index = from - c.from.result in
    let n = skip + (c.min-to.result - from) - skip in
    let begun = p.begun in
    let on : c.min.result ≡ min c.args.channel (channels_of p.wave.now - 1) = c.min.ensures ∙ ap (λ m. min c.args.channel (m - 1)) c.channels-last.ensures.value in
    gained_mid c.args.sums.now c.add.new.sums skip n (λ k. rounded (at c.fill.new.samples k *ℤ pos (p.scale.num * loudness p.fades (index + k))) (p.scale.den * most p.fades)) (λ k. gives (first + k) c.args.channel p)
    (simp (length-take, length-drop) at c.add.auto.sums ∙ omega arith) (omega arith) c.add.ensures
    (λ k h.
    let place : (c.from-2.result + c.from-3.result) + k ≡ p.offset + ((first + (skip + k)) - p.at) = omega arith in
    let frame : index + k ≡ (first + (skip + k)) - p.at = omega arith in
    let short : k < length c.fill.new.samples = omega (arith, simp length-take at c.fill.auto.samples) in
    let heard : at c.fill.new.samples k ≡ sample_or_silence p.wave.now (p.offset + ((first + (skip + k)) - p.at)) (min c.args.channel (channels_of p.wave.now - 1)) = c.fill.ensures k short ∙ rw (place, on) refl in
    ap (λ x. rounded (x *ℤ pos (p.scale.num * loudness p.fades (index + k))) (p.scale.den * most p.fades)) heard
    ∙ rw frame (sym (inside p (first + (skip + k)) c.args.channel (omega arith) (omega arith))))
    (λ k h. early p (first + k) c.args.channel (omega arith)) (λ k h w. late p (first + k) c.args.channel (omega arith))

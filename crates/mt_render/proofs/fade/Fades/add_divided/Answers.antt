use Rattle.std.proofs.Common.{◌+◌, ◌*◌, ◌<◌, ◌≢◌, ◌*ℤ◌, pos, length, arith, rules, below_more, get_or-set_other, get_or-set_same}
use Rattle.mt_render.specs.Mix.{rounded}
use Rattle.mt_render.specs.Fading.{loudness, most}
use Rattle.mt_render.proofs.Gaining.{gained}
use Rattle.mt_render.proofs.fade.Fades.add_divided.Goals as goal

pub loop-k-preserved : goal.loop-k-preserved
loop-k-preserved c =
    let i = c.loop-k.k in
    let v = c.args.self.now in
    let s = c.args.scale.now in
    let before = c.loop-k.invariant in
    let here : i < length c.loop-k.sums = omega arith in
    let gives = rw (c.level-level.ensures.value, c.full-full.ensures.value) at c.divided.ensures in (
      below_more _ _
          (λ j h. let ne : j ≢ i = omega arith in rw get_or-set_other (before.0 j h))
          (rw get_or-set_same (gained (λ z. rounded (z *ℤ pos (s.num * loudness v (c.args.index + i))) (s.den * most v)) _ _ _ _ (search rules) (search rules) (search rules) (before.1 i (omega arith)) gives)),
      λ j h. let ne : j ≢ i = omega arith in rw get_or-set_other (before.1 j (omega arith)),
    )

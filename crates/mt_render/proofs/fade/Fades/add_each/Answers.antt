use Rattle.std.proofs.Common.{◌+◌, ◌*◌, ◌<◌, ◌≤◌, ◌≢◌, ◌*ℤ◌, pos, length, arith, rules, below_more, get_or-set_other, get_or-set_same}
use Rattle.std.proofs.Math.Nat.{mul-le-mul_left}
use Rattle.mt_render.specs.Mix.{rounded}
use Rattle.mt_render.specs.Fading.{loudness, most}
use Rattle.mt_render.proofs.Gaining.{gained}
use Rattle.mt_render.proofs.fade.Fades.add_each.Goals as goal

pub small_product-factor-requires : goal.small_product-factor-requires
small_product-factor-requires g c =
    let m : c.args.num * c.level.result ≤ c.args.num * most c.args.self.now = mul-le-mul_left c.args.num c.level.ensures.within in
    omega (arith, c.requires.top)

pub loop-k-preserved : goal.loop-k-preserved
loop-k-preserved g c =
    let i = c.loop-k.k in
    let v = c.args.self.now in
    let before = c.loop-k.invariant in
    let here : i < length c.loop-k.sums = omega arith in
    let den = c.args.ramp.now.divisor.den in
    let gives = rw (c.small_product-factor.ensures, c.level.ensures.value) at c.of.ensures in (
      below_more _ _
          (λ j h. let ne : j ≢ i = omega arith in rw get_or-set_other (before.0 j h))
          (rw get_or-set_same (gained (λ z. rounded (z *ℤ pos (c.args.num * loudness v (c.args.index + i))) den) _ _ _ _ (search rules) (search rules) (search rules) (before.1 i (omega arith)) gives)),
      λ j h. let ne : j ≢ i = omega arith in rw get_or-set_other (before.1 j (omega arith)),
    )

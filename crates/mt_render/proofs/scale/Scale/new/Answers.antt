use Rattle.std.proofs.Common.{◌≤◌, ◌*◌, arith, refl, ◌∙◌}
use Rattle.std.proofs.lemmas.Nat.{mul-le}
use Rattle.mt_render.proofs.Floors.{in_lower_terms}
use Rattle.mt_render.proofs.scale.Scale.new.Goals as goal

pub returns : goal.returns
returns c x level full some_full =
    let a = c.from-3.result in
    let b = c.from-4.result in
    let common = c.divisor-common in
    let clip : 1 ≤ a = rw (c.from-3.ensures, c.den.ensures.value) c.den.ensures.valid.den_from in
    let track : 1 ≤ b = rw (c.from-4.ensures, c.den-2.ensures.value) c.den-2.ensures.valid.den_from in
    let some : 1 * 1 ≤ a * b = mul-le 1 1 a b clip track in
    rw (c.scale_of.ensures.num, c.scale_of.ensures.den) (in_lower_terms (c.from.result * c.from-2.result) (a * b) common.result level full x common.ensures.some (omega arith) some_full common.ensures.first common.ensures.second
    ∙ rw (c.from.ensures, c.from-2.ensures, c.from-3.ensures, c.from-4.ensures, c.num.ensures.value, c.num-2.ensures.value, c.den.ensures.value, c.den-2.ensures.value) refl)

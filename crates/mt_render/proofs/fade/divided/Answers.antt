use Rattle.std.proofs.Common.{◌≡◌, ◌*◌, ◌≤◌, ◌*ℤ◌, ◌∙◌, FitsSigned, pos, arith}
use Rattle.std.proofs.lemmas.Nat.{mul-le}
use Rattle.std.specs.Int.{w32, w64, w128}
use Rattle.std.proofs.lemmas.Int.{to_z-of_z}
use Rattle.mt_render.specs.Mix.{rounded}
use Rattle.mt_render.proofs.Floors.{divided_wide}
use Rattle.mt_render.proofs.Rising.{given_fits}
use Rattle.mt_render.proofs.fade.divided.Goals as goal

quotient : (c : goal.After-div_euclid) → c.div_euclid.result ≡ rounded (c.args.x *ℤ pos (c.args.scale.now.num * c.args.level)) (c.args.scale.now.den * c.args.full)
quotient c =
    let s = c.args.scale.now in
    let n = c.product-den.result in
    let some : 1 * 1 ≤ s.den * c.args.full = mul-le 1 1 s.den c.args.full s.den_from c.requires.full_from in
    let is = divided_wide c.div_euclid.result c.lifted.result (c.args.x *ℤ pos c.product.result) n (record { sfits = c.lifted.type_inv }) (omega arith) (omega arith) c.div_euclid.ensures
    (rw (to_z-of_z w32 c.args.x c.ranges.x) at c.lifted.ensures) in
    rw (c.product.ensures.value, c.product-den.ensures.value) at is

fits : (c : goal.After-div_euclid) → FitsSigned w64 c.div_euclid.result
fits c =
    let s = c.args.scale.now in
    rw (quotient c) (given_fits c.args.x s.num s.den c.args.level c.args.full c.ranges.x s.num_to s.den_from c.requires.full_from c.requires.level_to)

pub overflow_cast-result : goal.overflow_cast-result
overflow_cast-result c = rw (to_z-of_z w128 c.div_euclid.result (record { sfits = c.div_euclid.type_inv })) (fits c)

pub returns : goal.returns
returns c = rw (to_z-of_z w128 c.div_euclid.result (record { sfits = c.div_euclid.type_inv })) (to_z-of_z w64 c.div_euclid.result (fits c) ∙ quotient c)

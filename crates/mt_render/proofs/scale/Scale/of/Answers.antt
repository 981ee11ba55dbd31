use Rattle.std.proofs.Common.{arith, rules, ◌∙◌, pos, ◌*ℤ◌}
use Rattle.std.specs.Int.{w32}
use Rattle.std.proofs.lemmas.Int.{to_z-of_z}
use Rattle.mt_render.proofs.Floors.{by_division, divided}
use Rattle.mt_render.proofs.scale.Scale.of.Goals as goal

pub returns : goal.returns
returns c =
    let scale = c.args.self.now in
    divided c.div_euclid.result c.lifted.result c.from.result (search rules) (search rules) (search rules) c.div_euclid.ensures
    ∙ rw (c.lifted.ensures, c.from.ensures, to_z-of_z w32 c.args.x c.ranges.x) (by_division (c.args.x *ℤ pos scale.num) scale.den (omega arith))

use Rattle.std.proofs.Common.{◌∙◌, rules}
use Rattle.std.specs.Int.{w32, w64}
use Rattle.std.proofs.lemmas.Int.{to_z-of_z}
use Rattle.mt_render.proofs.Fading.{none_rounded}
use Rattle.mt_render.proofs.fade.Fades.of.Goals as goal

pub returns-then-are_none : goal.returns-then-are_none
returns-then-are_none c =
    let none = c.are_none.ensures c.if-are_none.true in
    to_z-of_z w64 c.of.result (search rules) ∙ c.of.ensures ∙ rw (to_z-of_z w32 c.args.x c.ranges.x) (none_rounded c.args.self.now c.args.index c.args.scale.now.num c.args.scale.now.den c.args.x none.0 none.1)

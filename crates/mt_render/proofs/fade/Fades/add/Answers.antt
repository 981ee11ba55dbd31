use Rattle.std.proofs.Common.{◌∙◌, ◌+◌, ap, ◌+ℤ◌}
use Rattle.std.specs.Int.{w64, int_wrap}
use Rattle.mt_bwfread.specs.Fill.{at}
use Rattle.mt_render.proofs.Fading.{none_rounded}
use Rattle.mt_render.proofs.fade.Fades.add.Goals as goal

pub returns-then-are_none : goal.returns-then-are_none
returns-then-are_none c k h =
    let none = c.are_none.ensures c.if-are_none.true in
    c.add.ensures k h
    ∙ ap (λ z. int_wrap w64 (at c.args.sums.now k +ℤ z)) (none_rounded c.args.self.now (c.args.index + k) c.args.scale.now.num c.args.scale.now.den (at c.args.samples.now k) none.0 none.1)

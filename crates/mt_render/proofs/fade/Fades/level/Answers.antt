use Rattle.mt_render.proofs.Fading.{loud_most}
use Rattle.mt_render.proofs.fade.Fades.level.Goals as goal

pub returns-clause-within : goal.returns-clause-within
returns-clause-within c = rw (c.from.ensures, c.from-2.ensures, c.level.ensures, c.level-2.ensures) (loud_most c.args.self.now c.args.index)

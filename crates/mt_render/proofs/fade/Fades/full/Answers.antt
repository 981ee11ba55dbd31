use Rattle.mt_render.proofs.Fading.{most_from, most_to}
use Rattle.mt_render.proofs.fade.Fades.full.Goals as goal

pub returns-clause-from : goal.returns-clause-from
returns-clause-from c = rw (c.from.ensures, c.from-2.ensures, c.full.ensures, c.full-2.ensures) (most_from c.args.self.now)

pub returns-clause-to : goal.returns-clause-to
returns-clause-to c = rw (c.from.ensures, c.from-2.ensures, c.full.ensures, c.full-2.ensures) (most_to c.args.self.now)

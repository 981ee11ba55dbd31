use Rattle.std.proofs.Common.{arith, refl}
use Rattle.mt_render.proofs.Fading.{even_alike}
use Rattle.mt_render.proofs.fade.Fades.between.Goals as goal

pub returns-then-fall-rise-clause-alike : goal.returns-then-fall-rise-clause-alike
returns-then-fall-rise-clause-alike c i from to = refl

pub returns-clause-alike : goal.returns-clause-alike
returns-clause-alike c i from to = let v = c.args.self.now in even_alike v.fade_in v.fade_out v.len i (omega arith) (omega arith)

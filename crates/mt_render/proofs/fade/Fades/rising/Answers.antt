use Rattle.std.proofs.Common.{arith}
use Rattle.mt_render.proofs.Fading.{rising_alike}
use Rattle.mt_render.proofs.fade.Fades.rising.Goals as goal

pub returns-clause-alike : goal.returns-clause-alike
returns-clause-alike c i from to = let v = c.args.self.now in rising_alike v.fade_in v.fade_out v.len i (omega arith)

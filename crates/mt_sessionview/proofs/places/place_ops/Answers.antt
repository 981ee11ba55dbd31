use Rattle.std.proofs.Common.{arith}
use Rattle.std.proofs.lemmas.Grind.{common_steps}
use Rattle.mt_sessionview.proofs.places.place_ops.Goals as goal

pub loop-op-preserved : goal.loop-op-preserved
loop-op-preserved g c = grind (arith, common_steps)

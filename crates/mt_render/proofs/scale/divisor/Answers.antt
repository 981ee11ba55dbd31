use Rattle.std.proofs.Common.{arith}
use Rattle.mt_render.proofs.Divisors.{divides_whole}
use Rattle.mt_render.proofs.scale.divisor.Goals as goal

pub loop-y-preserved : goal.loop-y-preserved
loop-y-preserved c = record {
  some = omega arith;
  both = λ d p q. c.loop-y.invariant.both d (divides_whole d c.loop-y.x c.loop-y.y p q) p;
}

pub loop-y-init : goal.loop-y-init
loop-y-init c = record { some = omega arith; both = λ d p q. (q, p) }

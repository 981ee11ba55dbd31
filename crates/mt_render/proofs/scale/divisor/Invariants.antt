-- What divides the two numbers divides those that the loop began with.
use Rattle.std.proofs.Common.{ℕ, ◌<◌}
use Rattle.mt_render.specs.Divides.{Divides}
use Rattle.mt_render.proofs.scale.divisor.Given as goal

abbrev pub invariant-loop-y : goal.invariant-loop-y
invariant-loop-y l = record {
  some : 0 < l.x;
  both : (d : ℕ) → Divides d l.x → Divides d l.y → Divides d l.a × Divides d l.b;
}

abbrev pub decreases-loop-y : goal.decreases-loop-y
decreases-loop-y l = l.y

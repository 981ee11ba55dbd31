-- Divisors of a remainder.
use Rattle.std.proofs.Common.{◌≡◌, ℕ, ◌+◌, ◌*◌, ◌/◌, ◌%◌, sym, arith, ◌∙◌}
use Rattle.std.proofs.lemmas.Nat.{div-add-mod'}
use Rattle.mt_render.specs.Divides.{Divides}

joined : (x d q u v n r : ℕ) → q * n + r ≡ x → n ≡ d * u → r ≡ d * v → x ≡ d * (q * u + v)
joined x d q u v n r e f g = sym e ∙ rw (f, g) (omega arith)

-- what divides the divisor and the remainder divides the dividend
pub divides_whole : (d x y : ℕ) → Divides d y → Divides d (x % y) → Divides d x
divides_whole d x y p q = record {
  times = (x / y) * p.times + q.times;
  is = joined x d (x / y) p.times q.times y (x % y) (div-add-mod' x y) p.is q.is;
}

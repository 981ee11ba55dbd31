use Rattle.std.proofs.Common.{refl, arith}
use Rattle.mt_render.proofs.Ramps.{inverse_fits, near_is, top_is}
use Rattle.mt_render.proofs.divisor.Divisor.new.Goals as goal

pub overflow_add-inverse-2 : goal.overflow_add-inverse-2
overflow_add-inverse-2 c =
    let s = c.shift_of-shift.result in
    rw (top_is s (omega (arith, c.shift_of-shift.ensures.below)), c.from.ensures) (omega (arith, c.shift_of-shift.ensures.below))

pub overflow_cast-result : goal.overflow_cast-result
overflow_cast-result c =
    let s = c.shift_of-shift.result in
    rw (top_is s (omega (arith, c.shift_of-shift.ensures.below)), c.from.ensures, c.from-2.ensures) (omega (arith, inverse_fits c.args.den s c.shift_of-shift.ensures.below c.requires.to))

pub invariant_of-result : goal.invariant_of-result
invariant_of-result c =
    let s = c.shift_of-shift.result in
    record {
      den_from = c.requires.from;
      den_to = c.requires.to;
      shift_to = omega (arith, c.shift_of-shift.ensures.small);
      near = rw (top_is s (omega (arith, c.shift_of-shift.ensures.below)), c.from.ensures, c.from-2.ensures) (near_is c.args.den s _ (omega arith) c.shift_of-shift.ensures.within refl);
      nearer = c.lower_of.ensures;
    }

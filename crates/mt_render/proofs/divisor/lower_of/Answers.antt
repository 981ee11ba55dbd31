use Rattle.std.proofs.Common.{arith}
use Rattle.mt_render.proofs.Ramps.{farther_top_is, nearer_fits, nearer_is}
use Rattle.mt_render.proofs.divisor.lower_of.Goals as goal

pub overflow_add-inverse-2 : goal.overflow_add-inverse-2
overflow_add-inverse-2 c =
    let small = c.requires.below in
    rw (farther_top_is c.args.shift (omega (arith, small, c.requires.to)), c.from.ensures) (omega (arith, small, c.requires.to))

pub overflow_sub-result : goal.overflow_sub-result
overflow_sub-result c =
    let small = c.requires.below in
    let fits = nearer_fits c.args.den c.args.shift (omega arith) c.requires.to small c.requires.within in
    rw (farther_top_is c.args.shift (omega (arith, small, c.requires.to)), c.from.ensures, c.from-2.ensures) (omega (arith, fits.0))

pub overflow_cast-result : goal.overflow_cast-result
overflow_cast-result c =
    let small = c.requires.below in
    let fits = nearer_fits c.args.den c.args.shift (omega arith) c.requires.to small c.requires.within in
    rw (farther_top_is c.args.shift (omega (arith, small, c.requires.to)), c.from.ensures, c.from-2.ensures) (omega (arith, fits.0, fits.1))

pub returns : goal.returns
returns c =
    let small = c.requires.below in
    let fits = nearer_fits c.args.den c.args.shift (omega arith) c.requires.to small c.requires.within in
    rw (farther_top_is c.args.shift (omega (arith, small, c.requires.to)), c.from.ensures, c.from-2.ensures)
    (nearer_is c.args.den c.args.shift _ (omega arith) c.requires.to small c.requires.within (omega (arith, fits.0)))

use Rattle.std.proofs.Common.{arith}
use Rattle.mt_render.proofs.Ramps.{nearer_quotient}
use Rattle.mt_render.proofs.divisor.Divisor.quotient_of_any.Goals as goal

pub returns : goal.returns
returns c =
    let d = c.args.self.now in
    rw c.upper-product.ensures (nearer_quotient c.args.number d.den d.lower d.shift (omega arith) d.nearer (omega arith))

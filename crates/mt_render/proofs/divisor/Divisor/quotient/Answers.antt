use Rattle.std.proofs.Common.{◌∙◌, ◌/◌, ◌^◌, ℕ, ap, arith}
use Rattle.mt_render.proofs.Ramps.{near_quotient}
use Rattle.mt_render.proofs.divisor.Divisor.quotient.Goals as goal

pub returns : goal.returns
returns c =
    let d = c.args.self.now in
    ap (λ (n : ℕ). n / 2 ^ d.shift) c.upper.ensures ∙ near_quotient c.args.number d.den d.inverse d.shift (omega arith) d.near c.requires

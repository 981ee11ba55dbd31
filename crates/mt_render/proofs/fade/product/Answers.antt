use Rattle.std.proofs.Common.{◌*◌, ◌^◌, ◌≤◌, arith}
use Rattle.std.proofs.lemmas.Nat.{mul-le}
use Rattle.mt_render.proofs.fade.product.Goals as goal

pub returns-clause-small : goal.returns-clause-small
returns-clause-small c =
    let m : c.args.gain * c.args.level ≤ 2 ^ 32 * 2 ^ 40 = mul-le c.args.gain c.args.level (2 ^ 32) (2 ^ 40) (omega arith) (omega arith) in
    rw (c.from.ensures, c.from-2.ensures) (omega arith)

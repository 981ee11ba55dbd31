use Rattle.std.proofs.Common.{◌∙◌, ◌/◌, ap, arith, rules}
use Rattle.std.specs.Int.{w32, w64}
use Rattle.std.proofs.lemmas.Int.{to_z-of_z}
use Rattle.mt_render.proofs.Quotients.{lowered_is}
use Rattle.mt_render.proofs.Ramps.{half_at_most}
use Rattle.mt_render.proofs.step.FarStep.of.Goals as goal

pub lowered-requires-clause-quotient_to : goal.lowered-requires-clause-quotient_to
lowered-requires-clause-quotient_to c = rw c.quotient_of_any.ensures (half_at_most c.lifted.result c.args.self.now.divisor.den (omega arith) (omega arith))

pub returns : goal.returns
returns c =
    let s = c.args.self.now.scale in
    let u = c.lifted.result in
    let is = rw (to_z-of_z w32 c.args.x c.ranges.x) at c.lifted.ensures.value in
    to_z-of_z w64 c.lowered.result (search rules) ∙ c.lowered.ensures ∙ lowered_is c.args.x s.num s.den s.turns u _ (omega arith) is (c.quotient_of_any.ensures ∙ ap (λ n. u / n) c.args.self.now.same)

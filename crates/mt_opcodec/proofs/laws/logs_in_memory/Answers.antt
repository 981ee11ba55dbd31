use Rattle.std.proofs.Common.{◌<◌, ◌^◌, ℕ, ◌∙◌, subst}
use Rattle.mt_opcodec.proofs.OneLog.{counted_so}
use Rattle.mt_opcodec.proofs.laws.logs_in_memory.Goals as goal

pub returns : goal.returns
returns g c = record {
  valid = c.runs.ensures.logged;
  own_dots = c.runs.ensures.whole;
  countable = subst (λ (n : ℕ). n < 2 ^ 64) (c.len.ensures ∙ counted_so c.args.log.now c.runs.ensures.logged c.runs.ensures.whole) c.len.type_inv;
}

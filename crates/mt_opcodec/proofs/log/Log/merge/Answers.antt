use Rattle.std.proofs.Common.{◌≡◌, subst}
use Rattle.std.specs.Prelude.{IfOk}
use Rattle.mt_opcodec.specs.LogValue.{LogMap}
use Rattle.mt_opcodec.specs.Union.{Agree, union}
use Rattle.mt_opcodec.proofs.log.Log.merge.Goals as goal

pub returns-clause-ok : goal.returns-clause-ok
returns-clause-ok g c =
    subst (λ (a : LogMap). IfOk c.join.result (λ log. Agree a c.args.right.now × (log ≡ union a c.args.right.now))) c.in_ok-copy.ensures.ok
    (subst (λ (b : LogMap). IfOk c.join.result (λ log. Agree c.in_ok-copy.copy b × (log ≡ union c.in_ok-copy.copy b))) c.in_ok-other.ensures.ok c.join.ensures.ok)

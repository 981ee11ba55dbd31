use Rattle.std.proofs.Common.{subst}
use Rattle.mt_opcodec.specs.LogValue.{LogMap, operations, AreLogged}
use Rattle.mt_replica.proofs.Taking.{it_is_new}
use Rattle.mt_replica.proofs.state.taken_in.Goals as goal

pub offer_new-requires-clause-unknown : goal.offer_new-requires-clause-unknown
offer_new-requires-clause-unknown g c =
    it_is_new c.args.log.now c.args.op c.args.waiting.now.contents c.requires.new (subst (λ (l : LogMap). AreLogged (operations l)) c.in_ok-add_copy.ensures.added c.runs.ensures.logged) c.requires.waits.offered

pub returns-clause-logged : goal.returns-clause-logged
returns-clause-logged g c = subst (λ (l : LogMap). AreLogged (operations l)) c.in_ok-add_copy.ensures.added c.runs.ensures.logged

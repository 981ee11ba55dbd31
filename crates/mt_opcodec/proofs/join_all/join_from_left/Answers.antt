use Rattle.std.proofs.Common.{subst, List}
use Rattle.mt_opcodec.specs.LogValue.{LogMap}
use Rattle.mt_opcodec.proofs.JoiningAll.{HasJoined, one_joined}
use Rattle.mt_opcodec.proofs.join_all.join_from_left.Goals as goal

pub loop-log-preserved : goal.loop-log-preserved
loop-log-preserved g c =
    one_joined c.loop-log.all c.in-Some.log c.in_ok-all-in-Some.all c.pop_front.new.self.items c.args.logs.items c.in_ok-all-in-Some.ensures.ok.0 c.in_ok-all-in-Some.ensures.ok.1
    (subst (λ (l : List LogMap). HasJoined c.loop-log.all l c.args.logs.items) c.in-Some.ensures.items c.loop-log.invariant)

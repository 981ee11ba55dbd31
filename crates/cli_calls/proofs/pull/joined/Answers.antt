use Rattle.std.proofs.Common.{subst, List, ◌++◌, ◌≡◌}
use Rattle.mt_opcodec.specs.LogValue.{LogMap}
use Rattle.mt_opcodec.proofs.JoiningAll.{HasJoined, one_joined}
use Rattle.cli_calls.specs.Pulling.{shares, shares_from}
use Rattle.cli_calls.proofs.Pulling.{one_shared}
use Rattle.cli_calls.proofs.pull.joined.Goals as goal

pub loop-log-preserved : goal.loop-log-preserved
loop-log-preserved g c = record {
  joined = one_joined c.loop-log.all c.in-Some.log c.in_ok-all.all c.pop_front.new.self.items c.args.logs.items c.in_ok-all.ensures.ok.0 c.in_ok-all.ensures.ok.1
      (subst (λ (l : List LogMap). HasJoined c.loop-log.all l c.args.logs.items) c.in-Some.ensures.items c.loop-log.invariant.joined);
  told = rw c.in_ok-push.ensures.items (one_shared c.loop-log.all c.in-Some.log c.in_ok-all.all c.pop_front.new.self.items c.args.logs.items c.loop-log.shares.items _ c.in_ok-all.ensures.ok.1 (search (c.len-before.ensures, c.len-count.ensures, c.len-in-loop-log.ensures, c.saturating_sub-new.ensures, c.saturating_sub-shared.ensures, c.in_ok-all.ensures.ok.1))
      (subst (λ (l : List LogMap). c.loop-log.shares.items ++ shares_from c.loop-log.all l ≡ shares c.args.logs.items) c.in-Some.ensures.items c.loop-log.invariant.told));
}

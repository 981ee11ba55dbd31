use Rattle.std.proofs.Common.{arith}
use Rattle.mt_holdback.specs.Queue.{is_met_in}
use Rattle.mt_holdback.proofs.Needs.{all_past}
use Rattle.mt_holdback.proofs.queue.first_lack.Goals as goal

pub returns-in-Some : goal.returns-in-Some
returns-in-Some g c = record { met = c.loop-i.invariant; lacks = c.in-Some.ensures }

pub loop-i-preserved : goal.loop-i-preserved
loop-i-preserved g c = c.in_default.ensures c.loop-i.invariant

pub returns : goal.returns
returns g c =
    all_past (is_met_in g.T.Waits.rules c.args.released.now) (g.T.Waits.rules.needs c.args.item.now) c.loop-i.i (omega (arith, c.loop-i-test.false, c.need_count-i-end.ensures)) c.loop-i.invariant

use Rattle.std.proofs.Common.{length, ap, ◌∙◌}
use Rattle.std.proofs.lemmas.List.{take_all}
use Rattle.mt_opcodec.specs.Runs.{run_ops}
use Rattle.mt_opcodec.proofs.RunLists.{count_more}
use Rattle.mt_opcodec.proofs.run_list.count_of.Goals as goal

pub loop-run-preserved : goal.loop-run-preserved
loop-run-preserved g c =
    count_more c.args.runs.now c.loop-run.run-index c.run-item.result c.ops.result.now c.loop-run.count c.in_ok-count.count c.loop-run-test.true c.run-item.is c.ops.ensures.value c.loop-run.invariant c.in_ok-count.ensures.1

pub returns : goal.returns
returns g c = c.loop-run.invariant ∙ ap (λ l. length (run_ops l)) (take_all c.loop-run.run-index c.args.runs.now c.loop-run-test.false)

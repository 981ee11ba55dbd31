use Rattle.std.proofs.Common.{◌++◌, ◌∷◌, [], List, take, ap, sym, ◌∙◌}
use Rattle.std.proofs.lemmas.List.{take_all, take_more}
use Rattle.mt_opcodec.specs.Runs.{RunOf}
use Rattle.mt_opcodec.proofs.run_list.copied_runs.Goals as goal

pub loop-run-preserved : goal.loop-run-preserved
loop-run-preserved g c =
    c.in_ok-push.ensures.items
    ∙ ap (λ (l : List RunOf). l ++ c.in_ok-copy.copy ∷ []) c.loop-run.invariant
    ∙ ap (λ (r : RunOf). take c.loop-run.run-index c.args.runs.now ++ r ∷ []) (c.in_ok-copy.ensures.ok ∙ c.run-item.is)
    ∙ sym (take_more c.args.runs.now c.loop-run.run-index c.run-item.result c.loop-run-test.true)

pub returns-clause-ok : goal.returns-clause-ok
returns-clause-ok g c = c.loop-run.invariant ∙ take_all c.loop-run.run-index c.args.runs.now c.loop-run-test.false

use Rattle.std.proofs.Common.{Option, sym, subst}
use Rattle.mt_opcodec.specs.LogValue.{LogMap}
use Rattle.cli_calls.proofs.Editing.{Ran, ran, edited_as}
use Rattle.cli_calls.proofs.edit.edited.Goals as goal

pub returns-in-Ok-run_draft-clause-ok : goal.returns-in-Ok-run_draft-clause-ok
returns-in-Ok-run_draft-clause-ok g c =
    edited_as c.args.name c.args.log c.args.script.now c.in-Ok-run_draft.count c.into_log.result
    (subst (λ (o : Option LogMap). Ran c.args.name c.args.log c.args.script.now c.in-Ok-run_draft.count o) (sym c.into_log.ensures)
    (ran c.args.name c.args.log c.args.script.now c.in-Ok-run_draft.count c.in-Ok.draft c.in-Ok-run_draft.made c.in-Ok.ensures.ok c.in-Ok-run_draft.ensures.gives c.in-Ok-run_draft.ensures.holds))
    c.made_of.result c.made_of.ensures.ok

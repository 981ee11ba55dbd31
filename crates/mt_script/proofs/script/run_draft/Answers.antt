use Rattle.std.proofs.Common.{◌≢◌, None, ◌∙◌}
use Rattle.mt_script.specs.declared.fault.ScriptFault.TheVariants.{Failed}
use Rattle.mt_script.proofs.Runs.{not_failed, same_fault, still_there, there_where}
use Rattle.mt_script.proofs.script.run_draft.Goals as goal

pub returns-in-Ok-clause-whole : goal.returns-in-Ok-clause-whole
returns-in-Ok-clause-whole g c =
    let there : c.args.draft.log ≢ None = there_where _ c.args.draft.log c.is_none.result c.log.ensures c.is_none.ensures c.if-is_none.false in
    still_there c.args.draft c.make_lines.new.draft c.in-Ok.ensures.0 there c.in-Ok.ensures.1.1.1

pub returns-in-Err-clause-failed : goal.returns-in-Err-clause-failed
returns-in-Err-clause-failed g c =
    let there : c.args.draft.log ≢ None = there_where _ c.args.draft.log c.is_none.result c.log.ensures c.is_none.ensures c.if-is_none.false in (
      λ is. absurd (not_failed c.args.draft c.args.text.now c.make_lines.result c.make_lines.new.draft there c.make_lines.ensures (c.in-Err.is ∙ same_fault c.in-Err.fault Failed is)),
      λ none. absurd (there none),
    )

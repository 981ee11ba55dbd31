use Rattle.std.proofs.Common.{Bool, sym, subst, ◌∙◌}
use Rattle.std.specs.Prelude.{IfErr}
use Rattle.mt_opcodec.specs.LogValue.{LogMap}
use Rattle.cli_calls.specs.Comparing.{IsNoLogAs}
use Rattle.cli_calls.specs.Swapping.{NotTaken}
use Rattle.cli_calls.proofs.diff.log_of.Goals as goal

pub returns-then-begins_as_frame-clause-err : goal.returns-then-begins_as_frame-clause-err
returns-then-begins_as_frame-clause-err g c =
    subst (λ (b : Bool). IfErr c.with_sent.result (IsNoLogAs b c.args.index c.args.bytes.now)) (sym c.if-begins_as_frame.true ∙ c.begins_as_frame.ensures)
    (subst (λ (m : LogMap). IfErr c.with_sent.result (NotTaken m c.args.bytes.now)) c.new.ensures c.with_sent.ensures.err)

use Rattle.std.proofs.Common.{Bool, Ok, ap}
use Rattle.mt_opcodec.proofs.RunLogs.{added_last}
use Rattle.mt_opcodec.proofs.log.add_last.Goals as goal

pub returns-in-Ok-clause-ok : goal.returns-in-Ok-clause-ok
returns-in-Ok-clause-ok g c =
    added_last c.args.log.now c.args.op c.runs.ensures.logged c.runs.ensures.whole c.requires.last c.add.new.self c.in-Ok.field-0 c.in-Ok.ensures.answer (λ e. c.in-Ok.ensures.added (ap (λ (b : Bool). Ok b) e))

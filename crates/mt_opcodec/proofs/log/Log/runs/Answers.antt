use Rattle.std.proofs.Common.{◌∙◌, ap, sym, subst}
use Rattle.mt_opcodec.specs.LogValue.{log_of, operations, AreLogged}
use Rattle.mt_opcodec.proofs.Logs.{operations-log_of}
use Rattle.mt_opcodec.specs.Runs.{run_ops}
use Rattle.mt_opcodec.proofs.Runs.{runs_logged}
use Rattle.mt_opcodec.proofs.log.Log.runs.Goals as goal

pub returns-clause-value : goal.returns-clause-value
returns-clause-value g c =
    ap run_ops c.deref.ensures.value ∙ sym (operations-log_of _ (runs_logged _ c.self.invariant.runs_are).rise) ∙ ap operations c.self.view_is

pub returns-clause-logged : goal.returns-clause-logged
returns-clause-logged g c = subst AreLogged (sym (operations-log_of _ (runs_logged _ c.self.invariant.runs_are).rise) ∙ ap operations c.self.view_is) (runs_logged _ c.self.invariant.runs_are)

pub returns-clause-whole : goal.returns-clause-whole
returns-clause-whole g c = ap log_of (sym (ap operations c.self.view_is) ∙ operations-log_of _ (runs_logged _ c.self.invariant.runs_are).rise) ∙ c.self.view_is

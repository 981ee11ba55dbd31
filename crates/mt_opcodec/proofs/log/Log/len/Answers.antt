use Rattle.std.proofs.Common.{sym, ◌∙◌}
use Rattle.mt_opcodec.specs.Runs.{run_ops}
use Rattle.mt_opcodec.proofs.Logs.{len_is}
use Rattle.mt_opcodec.proofs.Runs.{runs_logged}
use Rattle.mt_opcodec.proofs.log.Log.len.Goals as goal

pub returns : goal.returns
returns g c = c.self.invariant.counted ∙ sym (len_is c.args.self.now (run_ops c.self.inside.runs.items) c.self.view_is (runs_logged _ c.self.invariant.runs_are))

use Rattle.std.proofs.Common.{◌∙◌, ap, List}
use Rattle.mt_opcodec.specs.LogValue.{log_of}
use Rattle.mt_opcodec.proofs.Logs.{log_of-nil}
use Rattle.mt_opcodec.specs.Runs.{RunOf, run_ops}
use Rattle.mt_opcodec.proofs.log.Log.new.Goals as goal

pub returns : goal.returns
returns g c = ap (λ (l : List RunOf). log_of (run_ops l)) c.new.ensures.items ∙ log_of-nil

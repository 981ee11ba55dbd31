use Rattle.std.proofs.Common.{ℕ, List, subst}
use Rattle.mt_opcodec.specs.LogValue.{operations}
use Rattle.cli_calls.specs.Checking.{ChecksSession}
use Rattle.cli_calls.specs.Writing.{Wrote}
use Rattle.cli_calls.proofs.check.CheckCommandProgramme.write_value.Goals as goal

pub returns : goal.returns
returns g c =
    subst (λ (l : List (List ℕ)). Wrote g.W.Write.contents (ChecksSession c.args.self.now.form c.args.self.now.format c.args.self.now.head.now c.args.programme.session (operations c.args.programme.log) l) c.args.output.now c.check_session.new.output c.check_session.result)
    c.deref.ensures.value c.check_session.ensures

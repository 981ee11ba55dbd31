use Rattle.std.proofs.Common.{◌≡◌, ◌+◌, Bool, true, Ok, ℕ, sym, ap, ◌∙◌, subst}
use Rattle.mt_opcodec.specs.LogValue.{Adds, log_of}
use Rattle.mt_opcodec.specs.Runs.{run_ops}
use Rattle.mt_opcodec.proofs.RunLogs.{one_longer}
use Rattle.mt_opcodec.proofs.log.Log.add.Goals as goal

pub invariant_of-self-then-added : goal.invariant_of-self-then-added
invariant_of-self-then-added g c =
    let runs = c.self.inside.runs.items in
    let is : c.add_to_runs.result ≡ Ok true = c.in_ok-added-in-Some.was ∙ ap (λ (b : Bool). Ok b) c.if-added.true in
    record {
      runs_are = c.add_to_runs.ensures.runs_are;
      counted = c.in-Some.ensures.1 ∙ ap (λ (n : ℕ). n + 1) c.self.invariant.counted
          ∙ sym (one_longer runs c.add_to_runs.new.runs.items c.args.op c.self.invariant.runs_are c.add_to_runs.ensures.runs_are (subst (Adds c.args.op (log_of (run_ops runs))) is c.add_to_runs.ensures.answer) (c.add_to_runs.ensures.added is));
    }

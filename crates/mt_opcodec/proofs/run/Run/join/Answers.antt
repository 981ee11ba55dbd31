use Rattle.mt_opcodec.proofs.JoinedRun.{run_joined}
use Rattle.mt_opcodec.proofs.run.Run.join.Goals as goal

pub invariant_of-result : goal.invariant_of-result
invariant_of-result g c =
    let j = run_joined c.args.self c.args.other (record { replica = c.self.inside.replica; ops = c.self.inside.ops.items }) (record { replica = c.other.inside.replica; ops = c.other.inside.ops.items }) c.in-Ok.ops.items c.self.view_is c.other.view_is c.requires c.self.invariant c.other.invariant c.in-Ok.ensures.logged c.in-Ok.ensures.ok in
    j.run

pub returns-in-Ok-clause-joined : goal.returns-in-Ok-clause-joined
returns-in-Ok-clause-joined g c =
    run_joined c.args.self c.args.other (record { replica = c.self.inside.replica; ops = c.self.inside.ops.items }) (record { replica = c.other.inside.replica; ops = c.other.inside.ops.items }) c.in-Ok.ops.items c.self.view_is c.other.view_is c.requires c.self.invariant c.other.invariant c.in-Ok.ensures.logged c.in-Ok.ensures.ok

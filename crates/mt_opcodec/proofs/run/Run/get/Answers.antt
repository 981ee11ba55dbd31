use Rattle.std.proofs.Common.{◌≡◌, ap, sym, subst}
use Rattle.mt_opcodec.specs.LogValue.{log_of, AreLogged}
use Rattle.mt_opcodec.proofs.Logs.{get_found, get_absent}
use Rattle.mt_opcodec.proofs.run.Run.get.Goals as goal

pub returns-in-Ok : goal.returns-in-Ok
returns-in-Ok g c =
    let is : log_of c.ops-ops.result.now ≡ log_of c.args.self.now.ops = ap log_of c.ops-ops.ensures.value in
    let logged : AreLogged c.ops-ops.result.now = subst AreLogged (sym c.ops-ops.ensures.value) c.ops-ops.ensures.is_run.logged in
    sym (get_found (log_of c.args.self.now.ops) c.ops-ops.result.now is logged c.args.dot.now c.in-Ok.place c.index-ops-place.result c.in-Ok.ensures.found c.index-ops-place.is)

pub returns-in-Err : goal.returns-in-Err
returns-in-Err g c =
    let is : log_of c.ops-ops.result.now ≡ log_of c.args.self.now.ops = ap log_of c.ops-ops.ensures.value in
    let logged : AreLogged c.ops-ops.result.now = subst AreLogged (sym c.ops-ops.ensures.value) c.ops-ops.ensures.is_run.logged in
    sym (get_absent (log_of c.args.self.now.ops) c.ops-ops.result.now is logged c.args.dot.now c.in-Err.field-0 c.in-Err.ensures.absent)

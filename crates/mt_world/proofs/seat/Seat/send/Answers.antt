use Rattle.std.proofs.Common.{◌≡◌, ◌++◌, List, sym, ap, subst, ◌∙◌}
use Rattle.std.specs.Prelude.{unwrap_or, IfOk}
use Rattle.std.specs.FinMap as map
use Rattle.mt_op.specs.Operation.{Operation}
use Rattle.mt_opcodec.proofs.Sets.{logged_set}
use Rattle.mt_world.specs.World.{unsent}
use Rattle.mt_world.proofs.Rising.{unsent_of_part}
use Rattle.mt_world.proofs.seat.Seat.send.Goals as goal

pub returns : goal.returns
returns g c =
    let seat = c.args.self.now in
    let sent = c.args.sent in
    let same = unsent_of_part sent seat.saved seat.unsaved (logged_set seat.saved c.runs.ensures.logged c.runs.ensures.whole) (logged_set seat.unsaved c.runs-2.ensures.logged c.runs-2.ensures.whole) c.requires.saved
    ∙ ap (λ log. unsent sent (unwrap_or log map.empty)) (sym c.requires.whole.taken) in
    record { ok = subst (λ (ops : List Operation). IfOk c.with.result (λ new. new ≡ sent ++ ops)) same c.with.ensures.ok }

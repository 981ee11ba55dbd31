use Rattle.std.proofs.Common.{ℕ, List, subst}
use Rattle.cli_calls.specs.Bouncing.{render_inputs, Renders, RendersLogs, GaveLogsAndWaves, GaveMaterial, RenderCause, AreInputsRead}
use Rattle.cli_calls.specs.Running.{lent}
use Rattle.cli_calls.specs.Writing.{Wrote}
use Rattle.cli_calls.specs.declared.render.Material.{Material}
use Rattle.cli_calls.proofs.Rendering.{turned}
use Rattle.cli_calls.proofs.Running.{ran_on, ran_as}
use Rattle.cli_calls.proofs.render.bounce_logs.Goals as goal

pub returns-in-Ok : goal.returns-in-Ok
returns-in-Ok g c =
    let before = lent (render_inputs c.args.logs.now c.args.sources.now) c.args.output.now in
    let after = lent (render_inputs c.read_material.new.logs c.read_material.new.sources) c.put_session.new.output in
    let layout = c.args.format in
    let head = c.args.head.now in
    let read = g.R.Read.remaining in
    let contents = g.W.Write.contents in
    let wrote = subst (λ (l : List (List ℕ)). Wrote contents (Renders layout head c.in-Ok.m.session l) before.output after.output c.put_session.result) c.deref.ensures.value c.put_session.ensures in
    ran_as (GaveMaterial read {A = g.row.A.Denot}) (GaveLogsAndWaves read) (RenderCause read) (AreInputsRead read) (λ (m : Material g.row.A.Denot). Renders layout head m.session m.kept.items) (RendersLogs layout head) contents before after
    (λ m gave. turned read layout head before.inputs m gave) c.put_session.result
    (ran_on (GaveMaterial read {A = g.row.A.Denot}) (RenderCause read) (AreInputsRead read) (λ (m : Material g.row.A.Denot). Renders layout head m.session m.kept.items) contents before after c.in-Ok.m c.in-Ok.ensures.ok c.in-Ok.ensures.read c.put_session.result wrote)

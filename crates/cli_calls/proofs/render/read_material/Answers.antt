use Rattle.std.proofs.Common.{refl}
use Rattle.cli_calls.proofs.Keeping.{gave_audible}
use Rattle.cli_calls.proofs.render.read_material.Goals as goal

pub returns-in-Ok-read_audible-clause-ok : goal.returns-in-Ok-read_audible-clause-ok
returns-in-Ok-read_audible-clause-ok g c = (
  c.in-Ok.log,
  (
    c.in-Ok.ensures.ok,
    (
      c.in_ok-session.ensures.ok,
      gave_audible g.R.Read.remaining c.in_ok-session.session c.args.sources.now c.in_ok-audible.audible.uses c.in-Ok-read_audible.kept.items c.in-Ok-read_audible.kept.items c.in_ok-audible.ensures refl c.in-Ok-read_audible.ensures.ok,
    ),
  ),
)

use Rattle.std.proofs.Common.{◌∙◌}
use Rattle.mt_sessionview.proofs.scratch.from_scratch.Goals as goal

pub returns-clause-ok : goal.returns-clause-ok
returns-clause-ok g c =
    let parts = c.in_ok-parts.ensures.ok in
    c.in_ok-session_of_parts.ensures.ok parts.0 parts.1.0 ∙ parts.1.1

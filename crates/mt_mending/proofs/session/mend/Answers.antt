use Rattle.std.proofs.Common.{sym, ◌∙◌}
use Rattle.std.proofs.lemmas.Result.{on_ok_weaker}
use Rattle.mt_mending.proofs.MendSession.{a_track, a_marker, neither}
use Rattle.mt_mending.proofs.session.mend.Goals as goal

pub returns-then-meets-clause-ok : goal.returns-then-meets-clause-ok
returns-then-meets-clause-ok g c = on_ok_weaker c.mend_tracks.result (λ mended. mended ∙ a_track c.requires.stood (sym c.meets.ensures ∙ c.if-meets.true)) c.mend_tracks.ensures.ok

pub returns-then-meets-2-clause-ok : goal.returns-then-meets-2-clause-ok
returns-then-meets-2-clause-ok g c =
    on_ok_weaker c.mend_markers.result (λ mended. mended ∙ a_marker c.requires.stood (sym c.meets.ensures ∙ c.if-meets.false) (sym c.meets-2.ensures ∙ c.if-meets-2.true)) c.mend_markers.ensures.ok

pub returns-clause-ok : goal.returns-clause-ok
returns-clause-ok g c = on_ok_weaker c.mend_clips.result (λ mended. mended ∙ neither c.requires.stood (sym c.meets-2.ensures ∙ c.if-meets-2.false)) c.mend_clips.ensures.ok

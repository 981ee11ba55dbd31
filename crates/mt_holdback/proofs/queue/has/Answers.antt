use Rattle.std.proofs.Common.{sym, ap, ◌∙◌}
use Rattle.mt_holdback.specs.Waiting.{meets}
use Rattle.mt_holdback.specs.Queue.{passes_at}
use Rattle.mt_holdback.proofs.Released.{there_passes, found_need}
use Rattle.mt_holdback.proofs.queue.has.Goals as goal

pub returns-then-meets_at : goal.returns-then-meets_at
returns-then-meets_at g c = c.if-meets_at.true ∙ sym (there_passes g.T.Waits.rules.key (meets g.T.Waits.rules (c.args.stamp, c.args.role.now)) c.args.released.now c.first_place.result (sym c.meets_at.ensures ∙ c.if-meets_at.true))

pub returns-else-meets_at : goal.returns-else-meets_at
returns-else-meets_at g c =
    c.meets_at-else-meets_at.ensures
    ∙ ap (passes_at (meets g.T.Waits.rules (c.args.stamp, c.args.role.now)) c.args.released.now) c.other_place.ensures
    ∙ found_need g.T.Waits.rules (c.args.stamp, c.args.role.now) c.args.released.now c.args.places.now c.requires
    (ap (passes_at (meets g.T.Waits.rules (c.args.stamp, c.args.role.now)) c.args.released.now) (sym c.first_place.ensures) ∙ sym c.meets_at.ensures ∙ c.if-meets_at.false)

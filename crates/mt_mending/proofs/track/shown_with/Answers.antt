use Rattle.std.proofs.Common.{sym, subst}
use Rattle.mt_sessionview.specs.Content.{AreClips}
use Rattle.mt_sessionview.proofs.InOrder.{clips_are}
use Rattle.mt_mending.proofs.track.shown_with.Goals as goal

pub invariant_of-result : goal.invariant_of-result
invariant_of-result g c = subst AreClips (sym c.requires.clips) (clips_are c.args.items.now c.requires.noted c.args.item)

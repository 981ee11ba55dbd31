use Rattle.mt_sessionview.specs.Changing.{is_clip_at}
use Rattle.mt_sessionview.proofs.Beside.{AreClips-taken}
use Rattle.mt_sessionview.proofs.session.TrackView.take_clip.Goals as goal

pub invariant_of-self : goal.invariant_of-self
invariant_of-self g c =
    AreClips-taken (is_clip_at c.args.at c.args.place) c.self.inside.clips c.items.result.now c.remove.new.self c.in_ok-index.index c.self.invariant c.items.ensures c.in_ok-index.ensures.found c.remove.ensures.rest

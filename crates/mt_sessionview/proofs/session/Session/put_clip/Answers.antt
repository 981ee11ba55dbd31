use Rattle.std.proofs.Common.{refl}
use Rattle.std.proofs.lemmas.Result.{on_ok_weaker, on_err_weaker}
use Rattle.mt_sessionview.specs.Changing.{with_clip}
use Rattle.mt_sessionview.proofs.Retold.{IsSession-set, content_changed, content_kept, stamp_kept}
use Rattle.mt_sessionview.proofs.session.Session.put_clip.Goals as goal

pub invariant_of-self : goal.invariant_of-self
invariant_of-self g c = IsSession-set _ _ _ _ c.self.invariant c.item_mut-track.ensures.value (stamp_kept c.put_clip.result c.item_mut-track.result.now c.put_clip.new.self (with_clip c.args.clip) refl c.put_clip.ensures.ok c.put_clip.ensures.kept)

pub returns-clause-ok : goal.returns-clause-ok
returns-clause-ok g c = on_ok_weaker c.put_clip.result (content_changed (with_clip c.args.clip) _ _ _ _ c.put_clip.new.self c.self.view_is c.item_mut-track.ensures.value) c.put_clip.ensures.ok

pub returns-clause-kept : goal.returns-clause-kept
returns-clause-kept g c = on_err_weaker c.put_clip.result (content_kept _ _ _ _ c.put_clip.new.self c.self.view_is c.item_mut-track.ensures.value) c.put_clip.ensures.kept

use Rattle.std.proofs.Common.{◌-◌, ◌*◌}
use Rattle.mt_render.specs.Mix.{level, full}
use Rattle.mt_render.proofs.Fading.{both_from}
use Rattle.mt_render.proofs.track.part_of.Goals as goal

pub returns-clause-scaled : goal.returns-clause-scaled
returns-clause-scaled c x i =
    let k = c.clip.inside in
    rw (← c.clip.view_is) (c.new.ensures x (level k.fade_in i * level k.fade_out (k.len - i)) (full k.fade_in * full k.fade_out) (both_from k.fade_in k.fade_out))

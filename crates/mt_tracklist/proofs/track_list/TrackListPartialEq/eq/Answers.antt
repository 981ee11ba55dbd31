use Rattle.std.proofs.Common.{◌∙◌}
use lib.Pointwise.{pointwise}
use Rattle.mt_tracklist.specs.Equal.{same_placed}
use Rattle.mt_tracklist.proofs.Equal.{derived_is}
use Rattle.mt_tracklist.proofs.track_list.TrackListPartialEq.eq.Goals as goal

pub returns : goal.returns
returns g c =
    c.eq.ensures ∙ derived_is c.as_slice.result.now c.as_slice-2.result.now
    ∙ (λ i. pointwise same_placed ((c.as_slice.ensures.value ∙ c.self.view_is) i) ((c.as_slice-2.ensures.value ∙ c.other.view_is) i))

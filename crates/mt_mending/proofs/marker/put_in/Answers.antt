use Rattle.std.proofs.Common.{◌≡◌, ◌∙◌, false, ap, sym, subst}
use Rattle.std.specs.List.{list_any}
use Rattle.mt_sessionview.specs.Content.{Content, Marker}
use Rattle.mt_sessionview.specs.Changing.{is_marker_at}
use Rattle.mt_mending.specs.Before.{without_stood}
use Rattle.mt_mending.proofs.Markers.{none_at}
use Rattle.mt_mending.proofs.marker.put_in.Goals as goal

pub put_marker-requires : goal.put_marker-requires
put_marker-requires g c =
    let old = c.args.session.now in
    let v = c.args.view in
    let left = c.take_stood.ensures ∙ ap (λ (m : Marker). record old { markers = without_stood c.args.stood m.marker old.markers }) c.view.view_is in
    subst (λ (s : Content). list_any (is_marker_at v.at v.marker) s.markers ≡ false) (sym left) (none_at v.at v.marker (without_stood c.args.stood v.marker old.markers) c.requires.new)

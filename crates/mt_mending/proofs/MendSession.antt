-- A session, mended by the kind of the item that an operation is about.
use Rattle.std.proofs.Common.{◌≡◌, true, false, List, ◌∷◌, Option, sym, ap, ◌∙◌, subst}
use Rattle.mt_stamp.specs.Moment.{Moment}
use Rattle.mt_op.specs.declared.need.Role.TheVariants.{Clip as ClipRole, Marker as MarkerRole, Track as TrackRole}
use Rattle.mt_op.specs.Operation.{Operation}
use Rattle.mt_op.specs.Needs.{need_of}
use Rattle.mt_items.specs.Noting.{AreNoted, is_need_met}
use Rattle.mt_sessionview.specs.Content.{Track, Marker, Content}
use Rattle.mt_sessionview.specs.Noted.{markers_in, tracks_in}
use Rattle.mt_sessionview.specs.Changing.{put, without}
use Rattle.mt_mending.specs.declared.before.Stood.{Stood}
use Rattle.mt_mending.specs.Before.{SessionStood, TracksStood, MarkersStood, ClipsStood}
use Rattle.mt_mending.specs.Mending.{subject_of, track_order, session_in}
use Rattle.mt_mending.proofs.Found.{tracks_left}
use Rattle.mt_mending.proofs.Leaving.{before, no_track, items_are_of_a_kind}
use Rattle.mt_mending.proofs.MendTracks.{track_no_marker, marker_no_clip}

-- an operation about neither a track nor a clip leaves the tracks
tracks_as_before : (o : Operation) (r : List Operation) → AreNoted (o ∷ r) → is_need_met (o ∷ r) (need_of TrackRole (subject_of o)) ≡ false → is_need_met (o ∷ r) (need_of ClipRole (subject_of o)) ≡ false → tracks_in (o ∷ r) ≡ tracks_in r
tracks_as_before o r noted none no_clip =
    (items_are_of_a_kind o r noted).track_alone no_clip
    ∙ ap (λ (e : Option Track). put (track_order (o ∷ r)) e (without (λ (t : Track). t.track) (subject_of o) (tracks_in r))) (no_track o r noted (o ∷ r) none)
    ∙ tracks_left r noted.1 (subject_of o) (no_track o r noted r (before o r noted TrackRole none))

module _ {ops : List Operation} {item : Moment} {stood : Stood} {content : Content} (was : SessionStood ops item stood content) where
  pub tracks : TracksStood ops item stood.known content.tracks
  tracks = record { before = was.before; one_more = was.one_more; are = was.tracks_are; known_is = ap (λ (s : Stood). s.known) was.stood_is }

  pub markers : MarkersStood ops item stood.marker content.markers
  markers = record { before = was.before; one_more = was.one_more; are = was.markers_are; stood_at = ap (λ (s : Stood). s.marker) was.stood_is }

  pub clips : ClipsStood ops item stood.clip content.tracks
  clips = record { before = was.before; one_more = was.one_more; are = was.tracks_are; stood_at = ap (λ (s : Stood). s.clip) was.stood_is }

  abbrev last_noted : AreNoted (was.one_more.last ∷ was.before)
  last_noted = subst AreNoted was.one_more.are was.one_more.noted

  pub markers_stay : is_need_met ops (need_of MarkerRole item) ≡ false → content.markers ≡ markers_in ops
  markers_stay none =
      was.markers_are
      ∙ sym ((items_are_of_a_kind was.one_more.last was.before last_noted).no_marker ((λ i. is_need_met (sym was.one_more.are i) (need_of MarkerRole (sym was.one_more.about i))) ∙ none))
      ∙ ap markers_in (sym was.one_more.are)

  pub tracks_stay : is_need_met ops (need_of TrackRole item) ≡ false → is_need_met ops (need_of ClipRole item) ≡ false → content.tracks ≡ tracks_in ops
  tracks_stay none no_clip =
      was.tracks_are
      ∙ sym (tracks_as_before was.one_more.last was.before last_noted ((λ i. is_need_met (sym was.one_more.are i) (need_of TrackRole (sym was.one_more.about i))) ∙ none) ((λ i. is_need_met (sym was.one_more.are i) (need_of ClipRole (sym was.one_more.about i))) ∙ no_clip))
      ∙ ap tracks_in (sym was.one_more.are)

  -- by the kind of its item, one of the three lists alone changes, or the clips of tracks
  pub a_track : is_need_met ops (need_of TrackRole item) ≡ true → record content { tracks = tracks_in ops } ≡ session_in ops content.held
  a_track met = ap (λ (ms : List Marker). record content { tracks = tracks_in ops; markers = ms }) (markers_stay (track_no_marker ops was.one_more.noted item met))

  pub a_marker : is_need_met ops (need_of TrackRole item) ≡ false → is_need_met ops (need_of MarkerRole item) ≡ true → record content { markers = markers_in ops } ≡ session_in ops content.held
  a_marker none met = ap (λ (ts : List Track). record content { tracks = ts; markers = markers_in ops }) (tracks_stay none (marker_no_clip ops was.one_more.noted item met))

  pub neither : is_need_met ops (need_of MarkerRole item) ≡ false → record content { tracks = tracks_in ops } ≡ session_in ops content.held
  neither none = ap (λ (ms : List Marker). record content { tracks = tracks_in ops; markers = ms }) (markers_stay none)

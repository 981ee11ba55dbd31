-- What is read of the operations noted, item by item. Working definitions.
use Rattle.std.specs.Prelude.{◌≡◌, ℕ, Bool, false, ◌&&◌, List, [], ◌∷◌, Option, Some, None, MatchOption, unwrap_or, slice_index_or, if◌then◌else◌}
use Rattle.std.specs.BTreeMap.{BTreeMap, get}
use Rattle.std.specs.List.{filter_map}
use Rattle.std.specs.Map.{lookup}
use Rattle.mt_stamp.specs.Moment.{Moment, stamp_cmp, stamp_eq}
use Rattle.mt_stamp.specs.Written.{Written}
use Rattle.mt_stamp.specs.Tree.{TreePlace}
use Rattle.mt_tracklist.specs.declared.track_list.Placed.{Placed}
use Rattle.mt_op.specs.Gain.{unchanged}
use Rattle.mt_op.specs.declared.digest.Digest.{Digest}
use Rattle.mt_op.specs.declared.value.Placement.{Placement}
use Rattle.mt_op.specs.declared.value.TrimRange.{TrimRange}
use Rattle.mt_op.specs.declared.value.FadeLengths.{FadeLengths}
use Rattle.mt_op.specs.declared.need.Role.TheVariants.{Track as TrackRole, Clip as ClipRole}
use Rattle.mt_op.specs.Needs.{need_of}
use Rattle.mt_op.specs.Operation.{Act, AddTrack, MoveTrack, AddMarker, Operation}
use Rattle.mt_op.specs.Presence.{is_present}
use Rattle.mt_op.specs.Writes.{title_written, gain_written, mute_written, track_place_written, clip_place_written, trim_written, source_written, position_written, fades_written, marker_length_written, no_fades, last_write}
use Rattle.mt_sessionview.specs.Content.{Clip, Track, Marker}
use Rattle.mt_items.specs.Cells.{items_of}
use Rattle.mt_items.specs.Fields.{HoldsLast}
use Rattle.mt_items.specs.Noting.{is_need_met}
use Rattle.mt_items.specs.Tags.{HoldsTags}
use Rattle.mt_items.specs.declared.cells.TrackCells.{TrackCells}
use Rattle.mt_sessionview.specs.Noted.{value_in, clips_in}
use Rattle.mt_sessionview.specs.declared.clip.OnTrack.{OnTrack}

module _ (noted : List Operation) where
  -- a marker that is present
  abbrev pub marker_from : Moment → Option (Written (List ℕ)) → Option Marker
  marker_from marker None = None
  marker_from marker (Some title) = Some (record {
    marker = marker;
    at = unwrap_or (value_in noted position_written marker) 0;
    len = unwrap_or (value_in noted marker_length_written marker) 0;
    title = title.value;
  })

  abbrev pub marker_read : Moment → Option Marker
  marker_read marker = if is_present noted marker then marker_from marker (last_write title_written marker noted) else None

  -- the fades of a clip
  abbrev pub fades_of : Moment → FadeLengths
  fades_of clip = unwrap_or (value_in noted fades_written clip) no_fades

  -- a clip that is present, with the track that it is on
  abbrev pub clip_from : Moment → Option (Written Placement) → Option (Written TrimRange) → Option (Written Digest) → Option OnTrack
  clip_from clip (Some place) (Some trim) (Some source) = Some (record {
    track = place.value.track;
    clip = record {
      clip = clip;
      place = place.writer;
      at = place.value.at;
      offset = trim.value.offset;
      len = trim.value.len;
      gain = unwrap_or (value_in noted gain_written clip) unchanged;
      mute = unwrap_or (value_in noted mute_written clip) false;
      fade_in = (fades_of clip).fade_in;
      fade_out = (fades_of clip).fade_out;
      source = source.value;
    };
  })
  clip_from clip _ _ _ = None

  abbrev pub clip_read : Moment → Option OnTrack
  clip_read clip = if is_present noted clip then clip_from clip (last_write clip_place_written clip noted) (last_write trim_written clip noted) (last_write source_written clip noted) else None

  -- the clip, where it is on this track
  abbrev pub if_on : Moment → Option OnTrack → Option Clip
  if_on track None = None
  if_on track (Some found) = if stamp_eq found.track track then Some found.clip else None

  abbrev pub clip_on : Moment → Moment → Option Clip
  clip_on track clip = if_on track (clip_read clip)

  -- the track that stands where an operation put it
  abbrev pub is_writer : Moment → Option (Written (Option Moment)) → Bool
  is_writer place None = false
  is_writer place (Some w) = stamp_eq w.writer place

  abbrev pub stands_at : Moment → Moment → Bool
  stands_at track place = is_writer place (last_write track_place_written track noted) && is_present noted track

  abbrev pub if_standing : Moment → Option Moment → Option Moment
  if_standing place None = None
  if_standing place (Some track) = if stands_at track place then Some track else None

  -- a track with these clips
  abbrev pub track_from : Moment → List Clip → Option (Written (List ℕ)) → Option Track
  track_from track clips None = None
  track_from track clips (Some title) = Some (record {
    track = track;
    title = title.value;
    gain = unwrap_or (value_in noted gain_written track) unchanged;
    mute = unwrap_or (value_in noted mute_written track) false;
    clips = clips;
  })

-- the track to which an act gives a place
abbrev pub placed_track : Moment → Act → Option Moment
placed_track own (AddTrack after title) = Some own
placed_track own (MoveTrack track after) = Some track
placed_track own _ = None

-- what an act puts a track after, none for the head
abbrev pub place_after : Act → Option Moment
place_after (AddTrack after title) = after
place_after (MoveTrack track after) = after
place_after _ = None

-- the place that an operation gives
abbrev pub tree_place : Operation → TreePlace
tree_place o = record { place = o.stamp; after = place_after o.act }

-- the element that an operation gives a list of places; where it gives no place, its own stamp at the head
abbrev pub placed_by : Operation → Placed
placed_by o = record { place = o.stamp; after = place_after o.act; track = unwrap_or (placed_track o.stamp o.act) o.stamp }

module _ (noted : List Operation) where
  -- the clips of a track, by their rising stamps
  abbrev pub HasClips : BTreeMap Moment (List Clip) → Moment → Type 0
  HasClips table track = unwrap_or (get stamp_cmp table track) [] ≡ filter_map (clip_on noted track) (items_of ClipRole noted)

  -- the clips of each track
  abbrev pub AreTheClips : BTreeMap Moment (List Clip) → Type 0
  AreTheClips table = (track : Moment) → HasClips table track

  abbrev pub track_where : Option Moment → Option Track
  track_where None = None
  track_where (Some track) = track_from noted track (clips_in noted track) (last_write title_written track noted)

  -- the present track that stands where an operation put it
  abbrev pub standing : Operation → Option Moment
  standing o = if_standing noted o.stamp (placed_track o.stamp o.act)

  abbrev pub track_read : Operation → Option Track
  track_read o = track_where (standing o)

-- the cells of each track hold where it stands and its tags, and there are cells of nothing else
abbrev pub HoldStands : {A : Type 0} → List Operation → List (Moment × TrackCells A) → Type 0
HoldStands noted cells = (track : Moment) → MatchOption (lookup (stamp_eq track) cells) (is_need_met noted (need_of TrackRole track) ≡ false) (λ c. HoldsLast track_place_written track noted c.place × HoldsTags track noted c.presence)

-- the operation at a place, and one in no list where there is none
abbrev pub op_at : List Operation → ℕ → Operation
op_at ops p = slice_index_or ops p (record { stamp = record { clock = 0; replica = record { 0 = 0 }; seq = 0 }; act = AddMarker 0 [] })

-- the operations at these places, in this order
abbrev pub ops_at : List Operation → List ℕ → List Operation
ops_at ops [] = []
ops_at ops (p ∷ order) = op_at ops p ∷ ops_at ops order

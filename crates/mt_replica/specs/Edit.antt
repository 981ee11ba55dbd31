-- What an editor is asked for, without where its texts lie in memory.
use Rattle.std.specs.Prelude.{ℕ, Bool, List, Option}
use Rattle.mt_stamp.specs.Moment.{Moment}
use Rattle.mt_op.specs.Gain.{Ratio}
use Rattle.mt_op.specs.declared.digest.Digest.{Digest}

-- An edit (profile): what an act says, but a Remove lists no tags, and `after` names a track, none being the head of the
-- track order. Positions, offsets and lengths are in frames.
pub data Edit : Type 0 where
  AddTrack : (after : Option Moment) (title : List ℕ) → Edit
  MoveTrack : (track : Moment) (after : Option Moment) → Edit
  AddClip : (source : Digest) (track : Moment) (at offset len : ℕ) → Edit
  MoveClip : (clip track : Moment) (at : ℕ) → Edit
  TrimClip : (clip : Moment) (offset len : ℕ) → Edit
  SetGain : (item : Moment) (gain : Ratio) → Edit
  SetMute : (item : Moment) (on : Bool) → Edit
  Remove : (item : Moment) → Edit
  Restore : (item : Moment) → Edit
  AddMarker : (at : ℕ) (title : List ℕ) → Edit
  MoveMarker : (marker : Moment) (at : ℕ) → Edit
  Retitle : (item : Moment) (title : List ℕ) → Edit
  SetFade : (clip : Moment) (fade_in fade_out : ℕ) → Edit
  SetMarkerLength : (marker : Moment) (len : ℕ) → Edit

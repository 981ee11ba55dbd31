-- What an operation says, without where its texts lie in memory. Of the table of acts the fields stand here,
-- what they need, which roles they fit and which tags they give in Needs, what they write in Writes, and which tags they
-- remove in Presence.
use Rattle.std.specs.Prelude.{ℕ, Bool, List, Option}
use Rattle.mt_stamp.specs.Moment.{Moment}
use Rattle.mt_op.specs.Gain.{Ratio}
use Rattle.mt_op.specs.declared.digest.Digest.{Digest}

-- What an operation does to the session (profile). Positions, offsets and lengths are in frames; `after` names a place
-- of the track order, and none is its head.
pub data Act : Type 0 where
  AddTrack : (after : Option Moment) (title : List ℕ) → Act
  MoveTrack : (track : Moment) (after : Option Moment) → Act
  AddClip : (source : Digest) (track : Moment) (at offset len : ℕ) → Act
  MoveClip : (clip track : Moment) (at : ℕ) → Act
  TrimClip : (clip : Moment) (offset len : ℕ) → Act
  SetGain : (item : Moment) (gain : Ratio) → Act
  SetMute : (item : Moment) (on : Bool) → Act
  Remove : (item : Moment) (tags : List Moment) → Act
  Restore : (item : Moment) → Act
  AddMarker : (at : ℕ) (title : List ℕ) → Act
  MoveMarker : (marker : Moment) (at : ℕ) → Act
  Retitle : (item : Moment) (title : List ℕ) → Act
  SetFade : (clip : Moment) (fade_in fade_out : ℕ) → Act
  SetMarkerLength : (marker : Moment) (len : ℕ) → Act

-- An operation of an operation-based replicated type (INRIA RR-7506, operation-based objects): who made it when, and what it does.
pub record Operation : Type 0 where
  pub stamp : Moment
  pub act : Act

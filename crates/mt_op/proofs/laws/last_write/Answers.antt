use Rattle.std.proofs.Common.{ℕ, Bool, List}
use Rattle.std.specs.Prelude.{Option}
use Rattle.mt_stamp.specs.StampOrder.{Stamp}
use Rattle.mt_op.specs.Gain.{Gain}
use Rattle.mt_op.specs.declared.digest.Digest.{Digest}
use Rattle.mt_op.specs.declared.value.Placement.{Placement}
use Rattle.mt_op.specs.declared.value.TrimRange.{TrimRange}
use Rattle.mt_op.specs.declared.value.FadeLengths.{FadeLengths}
use Rattle.mt_op.proofs.LastWrite.{latest_is_greatest}
use Rattle.mt_op.proofs.laws.last_write.Goals as goal

pub returns-clause-titles : goal.returns-clause-titles
returns-clause-titles c = latest_is_greatest (List ℕ)

pub returns-clause-gains : goal.returns-clause-gains
returns-clause-gains c = latest_is_greatest Gain

pub returns-clause-mutes : goal.returns-clause-mutes
returns-clause-mutes c = latest_is_greatest Bool

pub returns-clause-track_places : goal.returns-clause-track_places
returns-clause-track_places c = latest_is_greatest (Option Stamp)

pub returns-clause-clip_places : goal.returns-clause-clip_places
returns-clause-clip_places c = latest_is_greatest Placement

pub returns-clause-trims : goal.returns-clause-trims
returns-clause-trims c = latest_is_greatest TrimRange

pub returns-clause-sources : goal.returns-clause-sources
returns-clause-sources c = latest_is_greatest Digest

pub returns-clause-positions : goal.returns-clause-positions
returns-clause-positions c = latest_is_greatest ℕ

pub returns-clause-fades : goal.returns-clause-fades
returns-clause-fades c = latest_is_greatest FadeLengths

pub returns-clause-marker_lengths : goal.returns-clause-marker_lengths
returns-clause-marker_lengths c = latest_is_greatest ℕ

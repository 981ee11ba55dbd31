use Rattle.mt_op.proofs.Written.{titles, gains, mutes, track_places, clip_places, trims, sources, positions, fades, marker_lengths}
use Rattle.mt_op.proofs.laws.writes.Goals as goal

pub returns-clause-titles : goal.returns-clause-titles
returns-clause-titles c = titles

pub returns-clause-gains : goal.returns-clause-gains
returns-clause-gains c = gains

pub returns-clause-mutes : goal.returns-clause-mutes
returns-clause-mutes c = mutes

pub returns-clause-track_places : goal.returns-clause-track_places
returns-clause-track_places c = track_places

pub returns-clause-clip_places : goal.returns-clause-clip_places
returns-clause-clip_places c = clip_places

pub returns-clause-trims : goal.returns-clause-trims
returns-clause-trims c = trims

pub returns-clause-sources : goal.returns-clause-sources
returns-clause-sources c = sources

pub returns-clause-positions : goal.returns-clause-positions
returns-clause-positions c = positions

pub returns-clause-fades : goal.returns-clause-fades
returns-clause-fades c = fades

pub returns-clause-marker_lengths : goal.returns-clause-marker_lengths
returns-clause-marker_lengths c = marker_lengths

use Rattle.std.proofs.Common.{◌≡◌, map, take, drop}
use Rattle.std.specs.List.{filter_map}
use Rattle.mt_sessionview.specs.Read.{track_read, HasClips}
use Rattle.mt_sessionview.proofs.Standing.{HasTheirs}
use Rattle.mt_sessionview.proofs.track.tracks.Given as goal

abbrev pub invariant-loop-op : goal.invariant-loop-op
invariant-loop-op g l = record {
  read : l.tracks.items ≡ filter_map (track_read l.items) (map (λ o. o.now) (take l.op-index l.ops));
  rest : HasTheirs l.items (HasClips l.items l.clips) (map (λ o. o.now) (drop l.op-index l.ops));
}

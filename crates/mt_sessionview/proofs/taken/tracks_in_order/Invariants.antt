use Rattle.std.proofs.Common.{◌≡◌, map, take, drop}
use Rattle.std.specs.List.{filter_map}
use Rattle.mt_sessionview.specs.Read.{track_read, HoldStands}
use Rattle.mt_sessionview.proofs.Standing.{HasTheirs}
use Rattle.mt_sessionview.proofs.TakenTitles.{IsWhole}
use Rattle.mt_sessionview.proofs.taken.tracks_in_order.Given as goal

abbrev pub invariant-loop-op : goal.invariant-loop-op
invariant-loop-op g l = record {
  read : l.tracks.items ≡ filter_map (track_read l.fn.items) (map (λ o. o.now) (take l.op-index l.ops));
  stand : HoldStands l.fn.items l.cells;
  rest : HasTheirs l.fn.items (IsWhole l.fn.items l.clips l.cells) (map (λ o. o.now) (drop l.op-index l.ops));
}

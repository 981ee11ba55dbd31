use Rattle.std.proofs.Common.{rules}
use Rattle.std.specs.Ordering.{is_lt}
use Rattle.std.proofs.lemmas.List.Sorted.{IsPartitionPoint-from_clause}
use Rattle.mt_sessionview.specs.Changing.{marker_beside}
use Rattle.mt_sessionview.proofs.Orders.{marker_key}
use Rattle.mt_sessionview.proofs.Placing.{parted}
use Rattle.mt_sessionview.proofs.change_marker.marker_place.Goals as goal

pub returns : goal.returns
returns g c =
    let point = IsPartitionPoint-from_clause (λ x. is_lt (marker_beside c.args.at c.args.marker x)) c.args.markers.now c.partition_point.result c.partition_point.ensures.partitioned (parted marker_key (c.args.at, c.args.marker) c.args.markers.now c.requires) (λ a r f called. search rules) in
    record { inside = c.partition_point.ensures.bound; before = point.0; after = point.1 }

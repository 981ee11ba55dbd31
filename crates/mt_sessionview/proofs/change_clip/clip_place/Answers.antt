use Rattle.std.proofs.Common.{rules}
use Rattle.std.specs.Ordering.{is_lt}
use Rattle.std.proofs.lemmas.List.Sorted.{IsPartitionPoint-from_clause}
use Rattle.mt_sessionview.specs.Changing.{clip_beside}
use Rattle.mt_sessionview.proofs.Orders.{clip_key}
use Rattle.mt_sessionview.proofs.Placing.{parted}
use Rattle.mt_sessionview.proofs.change_clip.clip_place.Goals as goal

pub returns : goal.returns
returns c =
    let point = IsPartitionPoint-from_clause (λ x. is_lt (clip_beside c.args.at c.args.place x)) c.args.clips.now c.partition_point.result c.partition_point.ensures.partitioned (parted clip_key (c.args.at, c.args.place) c.args.clips.now c.requires) (λ a r f called. search rules) in
    record { inside = c.partition_point.ensures.bound; before = point.0; after = point.1 }

-- The number of cells of items that an operation joins, and how it is counted.
use Rattle.std.specs.Prelude.{ℕ, ◌+◌, length, if◌then◌else◌}
use Rattle.std.specs.Io.Iter.{u64_saturate}
use Rattle.mt_op.specs.OpValue.{Body, Remove, Restore, Op}
use Rattle.mt_op.specs.Needs.{adds_item}
use Rattle.mt_op.specs.Writes.{writes}

-- the number of tags that an act adds or lists as removed
abbrev pub tags_joined : Body → ℕ
tags_joined (Remove item tags) = length tags
tags_joined (Restore item) = 1
tags_joined act = if adds_item act then 1 else 0

-- one for each field that an operation writes, each tag that it adds and each tag that it lists
-- (profile)
abbrev pub joins_of : Op → ℕ
joins_of o = length (writes o.stamp o.act) + tags_joined o.act

-- a count of joins after more, which stays at the greatest number of 64 bits
abbrev pub raised : ℕ → ℕ → ℕ
raised joins more = u64_saturate (joins + more)

-- Operations by their stamps.
use Rattle.std.specs.declared.cmp.Ordering.{Ordering}
use Rattle.mt_stamp.specs.Moment.{Moment, stamp_cmp}
use Rattle.mt_op.specs.Operation.{Operation}

abbrev pub stamp_of : Operation → Moment
stamp_of o = o.stamp

-- the order of operations by their stamps
abbrev pub op_cmp : Operation → Operation → Ordering
op_cmp a b = stamp_cmp a.stamp b.stamp

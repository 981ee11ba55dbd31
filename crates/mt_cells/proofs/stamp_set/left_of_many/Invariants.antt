use Rattle.std.proofs.Common.{◌≡◌, ◌++◌}
use Rattle.std.specs.List.{filter}
use Rattle.mt_cells.proofs.StampSets.{lacks}
use Rattle.mt_cells.proofs.stamp_set.left_of_many.Given as goal

abbrev pub invariant-loop-stamp : goal.invariant-loop-stamp
invariant-loop-stamp g l = l.left.items ++ filter (lacks l.other) l.stamp-iterator ≡ filter (lacks l.other) l.initial.stamp-iterator

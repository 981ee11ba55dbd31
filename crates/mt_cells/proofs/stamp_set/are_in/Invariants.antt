use Rattle.std.proofs.Common.{◌≡◌}
use Rattle.std.specs.List.{list_all}
use Rattle.std.specs.FinSet as set
use Rattle.mt_cells.proofs.stamp_set.are_in.Given as goal

abbrev pub invariant-loop-stamp : goal.invariant-loop-stamp
invariant-loop-stamp g l = list_all (set.contains l.others) l.stamp-iterator ≡ list_all (set.contains l.others) l.initial.stamp-iterator

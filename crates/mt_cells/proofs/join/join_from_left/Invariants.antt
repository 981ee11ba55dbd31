use Rattle.std.proofs.Common.{◌≡◌}
use Rattle.mt_cells.specs.Folds.{join_all}
use Rattle.mt_cells.proofs.join.join_from_left.Given as goal

abbrev pub invariant-loop-other : goal.invariant-loop-other
invariant-loop-other g l = join_all g.C.Join.joined l.all l.other-iterator.rest.items ≡ join_all g.C.Join.joined l.fn.first l.fn.others.items

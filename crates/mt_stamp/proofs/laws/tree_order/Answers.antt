use Rattle.mt_stamp.proofs.Tree.{paths_lead_there, trees_are_ordered, parents_stand_first, siblings_fall, subtrees_stand_together}
use Rattle.mt_stamp.proofs.laws.tree_order.Goals as goal

pub returns : goal.returns
returns c = record { path = paths_lead_there; ordered = trees_are_ordered; parent_first = parents_stand_first; siblings_fall = siblings_fall; subtrees = subtrees_stand_together }

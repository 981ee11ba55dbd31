use Rattle.mt_cells.proofs.Semilattice.{any_order-answered}
use Rattle.mt_cells.proofs.join.join_all.Goals as goal

pub returns-clause-any_order : goal.returns-clause-any_order
returns-clause-any_order g c =
    any_order-answered g.met.C.Eq.laws g.met.C.Join.commutative g.met.C.Join.associative g.met.C.Join.idempotent g.met.C.Join.respects
    c.join_from_left.result c.args.first c.args.others.items c.join_from_left.ensures.value

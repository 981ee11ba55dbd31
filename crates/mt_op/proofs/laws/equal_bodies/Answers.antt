use Rattle.mt_op.proofs.Equal.{body_decides}
use Rattle.mt_op.proofs.laws.equal_bodies.Goals as goal

pub returns : goal.returns
returns g c = body_decides g.row.A g.A.Allocator g.A.Allocator-dict g.A.Destruct-dict c.args.a.now c.args.b.now c.eq.result c.eq.ensures

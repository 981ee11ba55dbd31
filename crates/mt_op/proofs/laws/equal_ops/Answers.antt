use Rattle.mt_op.proofs.Equal.{op_decides}
use Rattle.mt_op.proofs.laws.equal_ops.Goals as goal

pub returns : goal.returns
returns g c = op_decides g.row.A g.A.Allocator g.A.Allocator-dict g.A.Destruct-dict c.args.a.now c.args.b.now c.eq.result c.eq.ensures

use Rattle.mt_replica.proofs.EqualTaken.{taken_decided}
use Rattle.mt_replica.proofs.laws.equal_taken.Goals as goal

pub returns : goal.returns
returns g c = taken_decided g.row.A g.A.Allocator g.A.Allocator-dict g.A.Destruct-dict c.args.taken.now c.args.other.now c.eq.result c.eq.ensures

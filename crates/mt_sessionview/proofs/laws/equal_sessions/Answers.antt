use Rattle.mt_sessionview.proofs.Equal.{session_decides}
use Rattle.mt_sessionview.proofs.laws.equal_sessions.Goals as goal

pub returns : goal.returns
returns g c = session_decides g.row.A g.A.Allocator g.A.Allocator-dict g.A.Destruct-dict c.args.session.now c.args.other.now c.eq.result c.eq.ensures

use Rattle.mt_sessionview.proofs.Equal.{track_decides}
use Rattle.mt_sessionview.proofs.laws.equal_tracks.Goals as goal

pub returns : goal.returns
returns g c = track_decides g.row.A g.A.Allocator g.A.Allocator-dict g.A.Destruct-dict c.args.track.now c.args.other.now c.eq.result c.eq.ensures

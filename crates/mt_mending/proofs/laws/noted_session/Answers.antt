use Rattle.mt_mending.proofs.NotedSession.{noted_are_the_session}
use Rattle.mt_mending.proofs.laws.noted_session.Goals as goal

pub returns : goal.returns
returns c = noted_are_the_session

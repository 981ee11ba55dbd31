use Rattle.mt_sync.proofs.Turns.{conversations_end}
use Rattle.mt_sync.proofs.laws.conversations.Goals as goal

pub returns : goal.returns
returns g c =
    conversations_end c.args.caller.now c.args.answerer.now
    (record { logged = c.runs.ensures.logged; all_of = c.runs.ensures.whole }) (record { logged = c.runs-2.ensures.logged; all_of = c.runs-2.ensures.whole })

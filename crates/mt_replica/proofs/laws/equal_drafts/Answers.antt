use Rattle.mt_replica.proofs.EqualEditors.{kept_decided}
use Rattle.mt_replica.proofs.laws.equal_drafts.Goals as goal

pub returns : goal.returns
returns g c = kept_decided c.args.draft.now c.args.other.now c.eq.result c.holds_operations.ensures c.holds_operations-2.ensures c.eq.ensures

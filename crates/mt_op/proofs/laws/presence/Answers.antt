use Rattle.mt_op.proofs.Presence.{presence_is_of_tags}
use Rattle.mt_op.proofs.laws.presence.Goals as goal

pub returns : goal.returns
returns c = presence_is_of_tags

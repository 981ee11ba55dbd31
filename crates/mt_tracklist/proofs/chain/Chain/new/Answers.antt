use Rattle.mt_tracklist.proofs.Links.{empty_chain}
use Rattle.mt_tracklist.proofs.chain.Chain.new.Goals as goal

pub invariant_of-result : goal.invariant_of-result
invariant_of-result g c = (empty_chain c.loop.next.items).chain

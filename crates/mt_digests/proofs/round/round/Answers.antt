use Rattle.std.proofs.Common.{refl}
use Rattle.mt_digests.proofs.Fours.{early_sum}
use Rattle.mt_digests.proofs.round.round.Goals as goal

pub returns : goal.returns
returns c = λ k w e. rw (c.big_sigma0.ensures, c.requires, c.ch.ensures, c.maj.ensures, e, early_sum _ _ _ k w) refl

use Rattle.mt_opcodec.proofs.Agreements.{agree_pairwise, agree_grouped}
use Rattle.mt_opcodec.proofs.laws.agreements.Goals as goal

pub returns-clause-pairwise : goal.returns-clause-pairwise
returns-clause-pairwise c = agree_pairwise

pub returns-clause-grouped : goal.returns-clause-grouped
returns-clause-grouped c = agree_grouped

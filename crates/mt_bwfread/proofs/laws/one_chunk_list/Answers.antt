use Rattle.std.proofs.Common.{sym, ◌∙◌}
use Rattle.mt_bwfread.proofs.Splitting.{found}
use Rattle.mt_bwfread.proofs.laws.one_chunk_list.Goals as goal

pub returns : goal.returns
returns c = λ bytes cs ds first second. sym (found bytes cs first).0 ∙ (found bytes ds second).0

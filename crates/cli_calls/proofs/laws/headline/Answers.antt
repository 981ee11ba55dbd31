use Rattle.cli_calls.proofs.Headline.{same_agree, same_is_told, same_is_rendered, same_is_shown, one_is_its_union, merged_is_same}
use Rattle.cli_calls.proofs.laws.headline.Goals as goal

pub returns-clause-agree : goal.returns-clause-agree
returns-clause-agree c = same_agree

pub returns-clause-told : goal.returns-clause-told
returns-clause-told c = same_is_told

pub returns-clause-rendered : goal.returns-clause-rendered
returns-clause-rendered c = same_is_rendered

pub returns-clause-shown : goal.returns-clause-shown
returns-clause-shown c = same_is_shown

pub returns-clause-one_log : goal.returns-clause-one_log
returns-clause-one_log c = one_is_its_union

pub returns-clause-merged : goal.returns-clause-merged
returns-clause-merged c = merged_is_same

use Rattle.std.proofs.Common.{arith}
use Rattle.std.proofs.lemmas.Str.Pattern.{strip_prefix_char}
use Rattle.mt_script.specs.Words.{item}
use Rattle.mt_script.proofs.Options.{begins_otherwise}
use Rattle.mt_script.proofs.words.item_of.Goals as goal

pub returns-in-None : goal.returns-in-None
unfolding item
returns-in-None c =
    let otherwise = begins_otherwise 36 c.args.text.now (omega arith) (rw c.in-None.is at (strip_prefix_char 36 c.args.text.now c.strip_prefix.result c.strip_prefix.ensures.cases (omega arith))) in
    rw otherwise c.stamp_of.ensures

use Rattle.std.proofs.Common.{◌∙◌}
use Rattle.mt_script.proofs.Stamps.{reader_answers}
use Rattle.mt_script.proofs.words.stamp_of.Goals as goal

pub returns : goal.returns
returns c = c.ok.ensures.value ∙ reader_answers c.args.text.now c.read.result c.read.ensures.found c.read.ensures.only

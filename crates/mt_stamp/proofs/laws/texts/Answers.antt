use Rattle.mt_stamp.proofs.Apart.{texts_are_apart}
use Rattle.mt_stamp.proofs.laws.texts.Goals as goal

pub returns : goal.returns
returns c = texts_are_apart

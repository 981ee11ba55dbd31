use Rattle.mt_render.proofs.EndToEnd.{blocks_are_samples}
use Rattle.mt_render.proofs.laws.blocks.Goals as goal

pub returns : goal.returns
returns c = blocks_are_samples

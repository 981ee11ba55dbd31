use Rattle.mt_render.proofs.Sounding.{top_is, none_is}
use Rattle.mt_render.proofs.laws.sounding_clip.Goals as goal

pub returns-clause-top : goal.returns-clause-top
returns-clause-top c = top_is

pub returns-clause-none : goal.returns-clause-none
returns-clause-none c = none_is

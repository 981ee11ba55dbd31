use Rattle.std.proofs.Common.{◌∙◌}
use Rattle.text_labels.proofs.Frames.{with_point, with_none}
use Rattle.text_labels.proofs.seconds.frame_of_seconds.Goals as goal

pub returns-in-Some : goal.returns-in-Some
returns-in-Some c =
    c.frame_by_parts.ensures
    ∙ with_point c.args.rate c.args.text.now c.in-Some.whole.now c.in-Some.part.now c.requires c.in-Some.ensures

pub returns-in-None : goal.returns-in-None
returns-in-None c = c.frame_by_whole.ensures ∙ with_none c.args.rate c.args.text.now c.requires c.in-None.ensures

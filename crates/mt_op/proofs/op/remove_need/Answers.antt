use Rattle.std.proofs.Common.{ap, ◌∙◌}
use Rattle.std.specs.Prelude.{Some}
use Rattle.mt_op.proofs.TagLists.{need_of_tag}
use Rattle.mt_op.proofs.op.remove_need.Goals as goal

pub returns : goal.returns
returns c = ap (λ need. Some need) c.of-2.ensures ∙ need_of_tag c.args.item c.args.tags.now c.args.i c.index-tags-i.result c.if-i-eq0.false c.if-i-tags.false c.index-tags-i.is

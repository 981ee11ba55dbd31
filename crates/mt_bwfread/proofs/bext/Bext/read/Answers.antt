use Rattle.std.proofs.Common.{ap, ◌∙◌}
use Rattle.std.proofs.lemmas.List.{take_rest}
use Rattle.mt_bwfread.specs.Extension.{text_of}
use Rattle.mt_bwfread.proofs.Extensions.{from_parts}
use Rattle.mt_bwfread.proofs.bext.Bext.read.Goals as goal

pub returns : goal.returns
returns c =
    from_parts c.args.bext.now c.text.result.now c.text-2.result.now c.text-3.result.now c.text-4.result.now c.text-5.result.now c.text-6.result.now c.from.result c.from-2.result c.u16_at.result c.if-bext-lt602.false c.text.ensures c.text-2.ensures c.text-3.ensures c.text-4.ensures c.text-5.ensures (c.text-6.ensures ∙ ap text_of (take_rest c.args.bext.now 602)) (c.from.ensures ∙ c.u32_at-low.ensures) (c.from-2.ensures ∙ c.u32_at-high.ensures) c.u16_at.ensures

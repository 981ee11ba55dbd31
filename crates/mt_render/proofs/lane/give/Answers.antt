use Rattle.std.proofs.Common.{◌∙◌, arith, rules}
use Rattle.std.specs.Int.{w64}
use Rattle.std.proofs.lemmas.Int.{to_z-of_z}
use Rattle.mt_render.proofs.Rising.{held, none_held, read_at}
use Rattle.mt_render.proofs.lane.give.Goals as goal

pub returns-then-index-parts : goal.returns-then-index-parts
returns-then-index-parts c =
    let ps = c.args.parts.now in
    let i = c.first_behind-index.result in
    let p = c.index-parts-index.result in
    let here = read_at ps i p (omega arith) c.index-parts-index.is in
    to_z-of_z w64 c.give.result (search rules) ∙ c.give.ensures
    ∙ held ps i c.args.frame c.args.channel p c.requires.rising here (c.first_behind-index.ensures.behind i p (omega arith) here) c.first_behind-index.ensures.before

pub returns-else-index-parts : goal.returns-else-index-parts
returns-else-index-parts c = none_held c.args.parts.now c.first_behind-index.result c.args.frame c.args.channel (omega arith) c.first_behind-index.ensures.before

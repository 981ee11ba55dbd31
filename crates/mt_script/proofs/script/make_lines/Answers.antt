use Rattle.std.proofs.Common.{◌<◌, length, sym, ◌∙◌}
use Rattle.std.proofs.lemmas.Bool.{eqb-true}
use Rattle.mt_script.proofs.Runs.{goes_on, ends, still_there, not_empty}
use Rattle.mt_script.proofs.script.make_lines.Goals as goal

pub loop-rest-preserved : goal.loop-rest-preserved
loop-rest-preserved g c =
    goes_on c.args.draft.now c.args.text.now c.loop-rest.draft c.loop-rest.items.items c.loop-rest.count c.loop-rest.rest.now c.cut_line.result.0.now c.cut_line.result.1.now
    c.make_line.new.draft c.make_line.new.items.items c.in_ok-count.field-0 c.requires c.loop-rest.invariant c.cut_line.ensures.lines c.in_ok-count.ensures

pub cut_line-requires : goal.cut_line-requires
cut_line-requires g c = not_empty c.loop-rest.rest.now (sym c.is_empty.ensures ∙ c.loop-rest-test.true)

pub make_line-requires : goal.make_line-requires
make_line-requires g c = still_there c.args.draft.now c.loop-rest.draft c.loop-rest.invariant.ops c.requires c.loop-rest.invariant.holds

pub returns : goal.returns
returns g c =
    ends c.args.draft.now c.args.text.now c.loop-rest.draft c.loop-rest.items.items c.loop-rest.count c.loop-rest.rest.now
    c.requires c.loop-rest.invariant (eqb-true (length c.loop-rest.rest.now) 0 (sym c.is_empty.ensures ∙ c.loop-rest-test.false))

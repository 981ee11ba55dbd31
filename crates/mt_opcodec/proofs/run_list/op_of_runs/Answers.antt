use Rattle.std.proofs.Common.{List, length, refl, sym, ap, ◌∙◌}
use Rattle.std.specs.Prelude.{slice_get}
use Rattle.std.proofs.lemmas.Option.{slice_get_read}
use Rattle.mt_opcodec.specs.Runs.{RunOf, run_ops}
use Rattle.mt_opcodec.proofs.RunLists.{place_here, place_later, drop_past}
use Rattle.mt_opcodec.proofs.run_list.op_of_runs.Goals as goal

pub returns-then-place-ops : goal.returns-then-place-ops
returns-then-place-ops g c =
    sym (place_here c.args.runs.now c.args.i c.loop-run.run-index c.run-item.result c.loop-run.place c.ops-ops.result.now c.loop-run-test.true c.run-item.is c.ops-ops.ensures.value c.loop-run.invariant c.if-place-ops.true
    ∙ slice_get_read c.ops-ops.result.now (length c.ops-ops.result.now) c.loop-run.place c.index-ops-place.result refl c.if-place-ops.true c.index-ops-place.is)

pub loop-run-preserved : goal.loop-run-preserved
loop-run-preserved g c =
    place_later c.args.runs.now c.args.i c.loop-run.run-index c.run-item.result c.loop-run.place c.ops-ops.result.now c.loop-run-test.true c.run-item.is c.ops-ops.ensures.value c.loop-run.invariant c.if-place-ops.false

pub returns : goal.returns
returns g c = sym (c.loop-run.invariant ∙ ap (λ (l : List RunOf). slice_get (run_ops l) c.loop-run.place) (drop_past c.args.runs.now c.loop-run.run-index c.loop-run-test.false))

use Rattle.std.proofs.Common.{◌∙◌, ap, refl, sym, subst, List}
use Rattle.std.proofs.lemmas.Result.{err_from_is_err_and}
use Rattle.std.specs.Prelude.{insert}
use Rattle.mt_stamp.specs.declared.name.Dot.{Dot}
use Rattle.mt_opcodec.specs.LogValue.{log_of}
use Rattle.mt_opcodec.specs.Runs.{RunOf, IsRun, AreRuns, run_ops, IsRunAt, IsRunGap}
use Rattle.mt_opcodec.proofs.Adding.{run_adds, none_there, run_there}
use Rattle.mt_opcodec.proofs.RunEdits.{AreRuns-set, AreRuns-insert, log_of-set, log_of-only}
use Rattle.mt_opcodec.proofs.run_list.add_to_runs.Goals as goal

pub returns-in-Ok-clause-runs_are : goal.returns-in-Ok-clause-runs_are
returns-in-Ok-clause-runs_are g c =
    let found : IsRunAt c.args.runs.now.items c.args.op.stamp.replica c.in-Ok.place = subst (λ (l : List RunOf). IsRunAt l c.args.op.stamp.replica c.in-Ok.place) c.deref.ensures.value (subst (λ (d : Dot). IsRunAt c.deref.result.now d.replica c.in-Ok.place) c.dot.ensures.value c.in-Ok.ensures.found) in
    let there = run_there c.args.runs.now.items c.args.op.stamp.replica c.in-Ok.place c.index_mut.result.now found c.index_mut.ensures.value in
    AreRuns-set c.args.runs.now.items c.in-Ok.place c.index_mut.result.now c.add.new.self c.requires.runs there.0 c.add.ensures.replica c.add.ensures.is_run

pub returns-in-Ok-clause-answer : goal.returns-in-Ok-clause-answer
returns-in-Ok-clause-answer g c =
    let found : IsRunAt c.args.runs.now.items c.args.op.stamp.replica c.in-Ok.place = subst (λ (l : List RunOf). IsRunAt l c.args.op.stamp.replica c.in-Ok.place) c.deref.ensures.value (subst (λ (d : Dot). IsRunAt c.deref.result.now d.replica c.in-Ok.place) c.dot.ensures.value c.in-Ok.ensures.found) in
    let there = run_there c.args.runs.now.items c.args.op.stamp.replica c.in-Ok.place c.index_mut.result.now found c.index_mut.ensures.value in
    run_adds (log_of (run_ops c.args.runs.now.items)) c.args.runs.now.items refl c.requires.runs c.args.op c.in-Ok.place c.index_mut.result.now there.0 there.1 c.add.result c.add.ensures.answer

pub returns-in-Ok-clause-added : goal.returns-in-Ok-clause-added
returns-in-Ok-clause-added g c =
    λ added.
    let found : IsRunAt c.args.runs.now.items c.args.op.stamp.replica c.in-Ok.place = subst (λ (l : List RunOf). IsRunAt l c.args.op.stamp.replica c.in-Ok.place) c.deref.ensures.value (subst (λ (d : Dot). IsRunAt c.deref.result.now d.replica c.in-Ok.place) c.dot.ensures.value c.in-Ok.ensures.found) in
    let there = run_there c.args.runs.now.items c.args.op.stamp.replica c.in-Ok.place c.index_mut.result.now found c.index_mut.ensures.value in
    log_of-set c.args.runs.now.items c.in-Ok.place c.index_mut.result.now c.add.new.self c.args.op c.requires.runs there.0 (sym there.1) c.add.ensures.replica c.add.ensures.was_run c.add.ensures.is_run (c.add.ensures.added added)

pub returns-in_err-clone-in-Err-clause-answer : goal.returns-in_err-clone-in-Err-clause-answer
returns-in_err-clone-in-Err-clause-answer g c =
    let gap : IsRunGap c.args.runs.now.items c.args.op.stamp.replica c.in-Err.place = subst (λ (l : List RunOf). IsRunGap l c.args.op.stamp.replica c.in-Err.place) c.deref.ensures.value (subst (λ (d : Dot). IsRunGap c.deref.result.now d.replica c.in-Err.place) c.dot.ensures.value c.in-Err.ensures.absent) in
    let p = err_from_is_err_and c.from_residual.result c.from_residual.ensures.1 in
    rw (p.1, p.2) (none_there (log_of (run_ops c.args.runs.now.items)) c.args.runs.now.items refl c.requires.runs c.args.op c.in-Err.place gap)

pub returns-in_err-run-in-Err-clause-answer : goal.returns-in_err-run-in-Err-clause-answer
returns-in_err-run-in-Err-clause-answer g c =
    let gap : IsRunGap c.args.runs.now.items c.args.op.stamp.replica c.in-Err.place = subst (λ (l : List RunOf). IsRunGap l c.args.op.stamp.replica c.in-Err.place) c.deref.ensures.value (subst (λ (d : Dot). IsRunGap c.deref.result.now d.replica c.in-Err.place) c.dot.ensures.value c.in-Err.ensures.absent) in
    let p = err_from_is_err_and c.from_residual-in_err-run-in-Err.result c.from_residual-in_err-run-in-Err.ensures.1 in
    rw (p.1, p.2) (none_there (log_of (run_ops c.args.runs.now.items)) c.args.runs.now.items refl c.requires.runs c.args.op c.in-Err.place gap)

pub returns-in_err-insert-in-Err-clause-answer : goal.returns-in_err-insert-in-Err-clause-answer
returns-in_err-insert-in-Err-clause-answer g c =
    let gap : IsRunGap c.args.runs.now.items c.args.op.stamp.replica c.in-Err.place = subst (λ (l : List RunOf). IsRunGap l c.args.op.stamp.replica c.in-Err.place) c.deref.ensures.value (subst (λ (d : Dot). IsRunGap c.deref.result.now d.replica c.in-Err.place) c.dot.ensures.value c.in-Err.ensures.absent) in
    let p = err_from_is_err_and c.from_residual-in_err-insert-in-Err.result c.from_residual-in_err-insert-in-Err.ensures.1 in
    rw (p.1, p.2) (none_there (log_of (run_ops c.args.runs.now.items)) c.args.runs.now.items refl c.requires.runs c.args.op c.in-Err.place gap)

pub returns-in_ok-insert-in-Err-clause-runs_are : goal.returns-in_ok-insert-in-Err-clause-runs_are
returns-in_ok-insert-in-Err-clause-runs_are g c =
    let gap : IsRunGap c.args.runs.now.items c.args.op.stamp.replica c.in-Err.place = subst (λ (l : List RunOf). IsRunGap l c.args.op.stamp.replica c.in-Err.place) c.deref.ensures.value (subst (λ (d : Dot). IsRunGap c.deref.result.now d.replica c.in-Err.place) c.dot.ensures.value c.in-Err.ensures.absent) in
    subst AreRuns (sym c.in_ok-insert-in-Err.ensures.items)
    (AreRuns-insert c.args.runs.now.items c.in-Err.place c.in_ok-run-in-Err.run' c.requires.runs (subst (λ (r : RunOf). IsRunGap c.args.runs.now.items r.replica c.in-Err.place) (sym c.in_ok-run-in-Err.ensures.ok) gap) c.in_ok-run-in-Err.ensures.is_run)

pub returns-in_ok-insert-in-Err-clause-answer : goal.returns-in_ok-insert-in-Err-clause-answer
returns-in_ok-insert-in-Err-clause-answer g c =
    let gap : IsRunGap c.args.runs.now.items c.args.op.stamp.replica c.in-Err.place = subst (λ (l : List RunOf). IsRunGap l c.args.op.stamp.replica c.in-Err.place) c.deref.ensures.value (subst (λ (d : Dot). IsRunGap c.deref.result.now d.replica c.in-Err.place) c.dot.ensures.value c.in-Err.ensures.absent) in
    none_there (log_of (run_ops c.args.runs.now.items)) c.args.runs.now.items refl c.requires.runs c.args.op c.in-Err.place gap

pub returns-in_ok-insert-in-Err-clause-added : goal.returns-in_ok-insert-in-Err-clause-added
returns-in_ok-insert-in-Err-clause-added g c =
    λ _.
    let gap : IsRunGap c.args.runs.now.items c.args.op.stamp.replica c.in-Err.place = subst (λ (l : List RunOf). IsRunGap l c.args.op.stamp.replica c.in-Err.place) c.deref.ensures.value (subst (λ (d : Dot). IsRunGap c.deref.result.now d.replica c.in-Err.place) c.dot.ensures.value c.in-Err.ensures.absent) in
    ap (λ (l : List RunOf). log_of (run_ops l)) (c.in_ok-insert-in-Err.ensures.items ∙ ap (insert c.args.runs.now.items c.in-Err.place) c.in_ok-run-in-Err.ensures.ok)
    ∙ log_of-only c.args.runs.now.items c.in-Err.place c.args.op c.requires.runs gap (subst IsRun c.in_ok-run-in-Err.ensures.ok c.in_ok-run-in-Err.ensures.is_run)

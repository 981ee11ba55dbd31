use Rattle.std.proofs.Common.{◌≡◌, ◌∙◌, ap, sym, Some, length, refl}
use Rattle.std.specs.Prelude.{slice_get}
use Rattle.std.specs.FinMap as fin
use Rattle.std.proofs.lemmas.Option.{same_Some, slice_get_read, slice_get_within}
use Rattle.mt_opcodec.specs.LogValue.{LogMap, log_of}
use Rattle.mt_opcodec.specs.Runs.{RunOf, run_ops}
use Rattle.mt_opcodec.proofs.Runs.{get-run, get-no_run}
use Rattle.mt_opcodec.proofs.log.Log.get.Goals as goal

pub returns-in-Ok : goal.returns-in-Ok
returns-in-Ok g c =
    let runs = c.runs-runs.result.now in
    let found = c.in-Ok.ensures.found in
    let at : slice_get runs c.in-Ok.place ≡ Some c.index-runs-place.result = slice_get_read runs (length runs) c.in-Ok.place c.index-runs-place.result refl (slice_get_within runs c.in-Ok.place found.0 found.1.0) c.index-runs-place.is in
    let same : found.0 ≡ c.index-runs-place.result = same_Some found.0 c.index-runs-place.result (sym found.1.0 ∙ at) in
    let is : log_of (run_ops runs) ≡ c.args.self.now = ap log_of c.runs-runs.ensures.value ∙ c.runs-runs.ensures.whole in
    c.get.ensures
    ∙ sym (get-run runs c.in-Ok.place c.index-runs-place.result c.args.dot.now c.runs-runs.ensures.runs at (ap (λ (r : RunOf). r.replica) (sym same) ∙ found.1.1))
    ∙ ap (λ (m : LogMap). fin.get m c.args.dot.now) is

pub returns-in-Err : goal.returns-in-Err
returns-in-Err g c =
    let runs = c.runs-runs.result.now in
    let is : log_of (run_ops runs) ≡ c.args.self.now = ap log_of c.runs-runs.ensures.value ∙ c.runs-runs.ensures.whole in
    sym (get-no_run runs c.in-Err.field-0 c.args.dot.now c.runs-runs.ensures.runs c.in-Err.ensures.absent) ∙ ap (λ (m : LogMap). fin.get m c.args.dot.now) is

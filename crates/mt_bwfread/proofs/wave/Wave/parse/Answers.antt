use Rattle.std.proofs.Common.{refl, arith}
use Rattle.std.proofs.lemmas.Result.{err_from_is_err_and}
use Rattle.mt_bwfread.proofs.Reading.{IsOpened, truncated_at, fault_at, now_or_nil, is_kept}
use Rattle.mt_bwfread.proofs.wave.Wave.parse.Goals as goal

pub returns-in_err-found-clause-fault : goal.returns-in_err-found-clause-fault
returns-in_err-found-clause-fault c =
    let p = err_from_is_err_and c.from_residual-in_err-found.result c.from_residual-in_err-found.ensures.1 in
    let b = c.in_ok-body.ensures in
    let opened : IsOpened c.args.text.now c.in_ok-body.body.now = record { riff = b.0; wave = b.1; rest = b.2 } in
    rw (p.1, p.2) (truncated_at c.args.text.now c.in_ok-body.body.now c.in_err-found.field-0.0 opened c.in_err-found.ensures.0 c.in_err-found.ensures.1)

pub returns-in_err-format-clause-fault : goal.returns-in_err-format-clause-fault
returns-in_err-format-clause-fault c =
    let p = err_from_is_err_and c.from_residual-in_err-format.result c.from_residual-in_err-format.ensures.1 in
    let b = c.in_ok-body.ensures in
    let opened : IsOpened c.args.text.now c.in_ok-body.body.now = record { riff = b.0; wave = b.1; rest = b.2 } in
    rw (p.1, p.2) (fault_at c.args.text.now c.in_ok-body.body.now c.in_ok-found.found _ opened c.in_ok-found.ensures.0 c.in_ok-found.ensures.1 c.in_err-format.ensures.fault)

pub returns-clause-fault : goal.returns-clause-fault
returns-clause-fault c =
    let b = c.in_ok-body.ensures in
    let opened : IsOpened c.args.text.now c.in_ok-body.body.now = record { riff = b.0; wave = b.1; rest = b.2 } in
    fault_at c.args.text.now c.in_ok-body.body.now c.in_ok-found.found _ opened c.in_ok-found.ensures.0 c.in_ok-found.ensures.1 c.in_ok-format.ensures.fault

pub invariant_of-result : goal.invariant_of-result
invariant_of-result c =
    let b = c.in_ok-body.ensures in
    let opened : IsOpened c.args.text.now c.in_ok-body.body.now = record { riff = b.0; wave = b.1; rest = b.2 } in
    let cue = now_or_nil c.in_ok-found.found.cue _ c.unwrap_or-cue.result refl c.unwrap_or-cue.ensures in
    is_kept _ c.in_ok-found.found (λ i. omega (arith, c.type_inv.text i))
    (fault_at c.args.text.now c.in_ok-body.body.now c.in_ok-found.found _ opened c.in_ok-found.ensures.0 c.in_ok-found.ensures.1 c.in_ok-format.ensures.fault)
    b.2 c.in_ok-found.ensures.1 c.in_ok-format.ensures.value
    (rw (c.from.ensures, c.from-2.ensures) refl) refl
    (rw (← cue) c.points-point_count.ensures.bytes) (rw (← cue) c.points-point_count.ensures.count)

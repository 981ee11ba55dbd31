use Rattle.std.proofs.Common.{◌≡◌, arith}
use Rattle.mt_stamp.proofs.Texts.{some_from_ok, text_from_parts, moment_from_parts}
use Rattle.mt_stamp.proofs.text.stamp_of.Goals as goal

pub returns-clause-found : goal.returns-clause-found
returns-clause-found c = some_from_ok _ _ _ _ c.ok.ensures.value c.new.ensures.ok (λ s made. (made.1, text_from_parts _ _ _ _ _ _ _ c.in_ok-clock.ensures.found c.in_ok-seq.ensures.found c.in_ok-replica.ensures.found made.0))

pub returns-clause-only : goal.returns-clause-only
returns-clause-only c =
    λ s fits is. let first = c.in_ok-clock.ensures.only s.clock _ (omega (arith, fits.clock_to)) is in
    let second = c.in_ok-seq.ensures.only s.seq _ (omega (arith, fits.seq_to)) first.1 in
    let third = c.in_ok-replica.ensures.only s.replica fits.replica_fits second.1 in
    let replica : c.in_ok-replica.replica ≡ s.replica = cc in
    moment_from_parts _ _ _ _ _ s fits first.0 replica second.0 c.new.ensures.made c.ok.ensures.value

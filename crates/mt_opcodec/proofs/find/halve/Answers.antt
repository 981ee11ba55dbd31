use Rattle.std.proofs.Common.{◌≡◌, ◌<◌, ◌+◌, ◌-◌, ◌/◌, Some, length, refl, sym, ap, ◌∙◌, arith, Less, Equal, Greater}
use Rattle.std.specs.Prelude.{slice_get}
use Rattle.std.specs.Cmp.{ranked}
use Rattle.std.specs.Ordering.{nat_cmp}
use Rattle.std.proofs.lemmas.Option.{slice_get_read}
use Rattle.mt_stamp.specs.declared.name.Replica.{Replica}
use Rattle.mt_stamp.proofs.Order.{same_replica}
use Rattle.mt_opcodec.proofs.Narrowing.{Narrows-up, Narrows-down}
use Rattle.mt_opcodec.proofs.find.halve.Goals as goal

pub loop-low-preserved-in-Less : goal.loop-low-preserved-in-Less
loop-low-preserved-in-Less g c =
    let probe = c.loop-low.low + (c.loop-low.high - c.loop-low.low) / 2 in
    let there = c.index-runs-probe.result in
    let inside : probe < length c.args.runs.now = omega (arith, c.loop-low-test.true, c.loop-low.invariant.in_range) in
    let at : slice_get c.args.runs.now probe ≡ Some there = slice_get_read c.args.runs.now (length c.args.runs.now) probe there refl inside c.index-runs-probe.is in
    let less : Less ≡ nat_cmp there.replica.0 c.args.replica.0 = sym c.in-Less.is ∙ c.cmp.ensures ∙ ap (λ (s : Replica). nat_cmp s.0 c.args.replica.0) c.replica.ensures in
    Narrows-up c.args.runs.now c.args.replica c.loop-low.low c.loop-low.high probe there c.requires c.loop-low.invariant (omega arith) (omega (arith, c.loop-low-test.true)) at (ranked there.replica.0 c.args.replica.0 Less less)

pub returns-in-Equal-clause-found : goal.returns-in-Equal-clause-found
returns-in-Equal-clause-found g c =
    let probe = c.loop-low.low + (c.loop-low.high - c.loop-low.low) / 2 in
    let there = c.index-runs-probe.result in
    let inside : probe < length c.args.runs.now = omega (arith, c.loop-low-test.true, c.loop-low.invariant.in_range) in
    let at : slice_get c.args.runs.now probe ≡ Some there = slice_get_read c.args.runs.now (length c.args.runs.now) probe there refl inside c.index-runs-probe.is in
    let tied : Equal ≡ nat_cmp there.replica.0 c.args.replica.0 = sym c.in-Equal.is ∙ c.cmp.ensures ∙ ap (λ (s : Replica). nat_cmp s.0 c.args.replica.0) c.replica.ensures in
    (there, (at, same_replica there.replica c.args.replica (ranked there.replica.0 c.args.replica.0 Equal tied)))

pub loop-low-preserved : goal.loop-low-preserved
loop-low-preserved g c =
    let probe = c.loop-low.low + (c.loop-low.high - c.loop-low.low) / 2 in
    let there = c.index-runs-probe.result in
    let inside : probe < length c.args.runs.now = omega (arith, c.loop-low-test.true, c.loop-low.invariant.in_range) in
    let at : slice_get c.args.runs.now probe ≡ Some there = slice_get_read c.args.runs.now (length c.args.runs.now) probe there refl inside c.index-runs-probe.is in
    let greater : Greater ≡ nat_cmp there.replica.0 c.args.replica.0 = sym c.in-Greater.is ∙ c.cmp.ensures ∙ ap (λ (s : Replica). nat_cmp s.0 c.args.replica.0) c.replica.ensures in
    Narrows-down c.args.runs.now c.args.replica c.loop-low.low c.loop-low.high probe there c.requires c.loop-low.invariant (omega arith) (omega (arith, c.loop-low-test.true)) at (ranked there.replica.0 c.args.replica.0 Greater greater)

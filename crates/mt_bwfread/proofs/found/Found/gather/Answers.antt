use Rattle.std.proofs.Common.{◌≡◌, refl, sym, ◌∙◌, arith}
use Rattle.mt_bwfread.proofs.Chunks.{shorter, rest_step, rest_stop}
use Rattle.mt_bwfread.proofs.Firsts.{next_firsts, all_firsts}
use Rattle.mt_bwfread.specs.Riff.{rest_of}
use Rattle.mt_bwfread.proofs.found.Found.gather.Goals as goal

pub loop-part-smaller : goal.loop-part-smaller
loop-part-smaller c =
    rw c.in-Some.ensures.after (let less = shorter c.loop-part.left.now c.in-Some.ensures.whole in omega arith)

pub loop-part-preserved : goal.loop-part-preserved
loop-part-preserved c =
    let part = c.in-Some.ensures in
    record {
      firsts = next_firsts c.loop-part.found c.with-found.result c.loop-part.left.now c.in-Some.part _ part c.with-found.ensures c.loop-part.invariant.firsts;
      rest = rw part.after (sym (rest_step c.loop-part.left.now part.whole) ∙ c.loop-part.invariant.rest);
    }

pub returns-then-left-lt8 : goal.returns-then-left-lt8
returns-then-left-lt8 c =
    let rest : rest_of c.args.body.now ≡ c.loop-part.left.now = sym c.loop-part.invariant.rest ∙ rest_stop c.loop-part.left.now c.in_default.ensures in
    (rw rest c.if-left-lt8.true, all_firsts c.loop-part.found c.loop-part.left.now _ c.in_default.ensures c.loop-part.invariant.firsts)

pub returns-else-left-lt8 : goal.returns-else-left-lt8
returns-else-left-lt8 c =
    let rest : rest_of c.args.body.now ≡ c.loop-part.left.now = sym c.loop-part.invariant.rest ∙ rest_stop c.loop-part.left.now c.in_default.ensures in
    (rw rest c.if-left-lt8.false, refl)

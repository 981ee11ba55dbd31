use Rattle.std.proofs.Common.{◌≡◌, ◌+◌, ◌+ℤ◌, ◌∙◌, arith, refl}
use Rattle.mt_bwfread.specs.Fill.{at}
use Rattle.mt_render.specs.Parts.{gives}
use Rattle.mt_render.proofs.Cutting.{thirds, three}
use Rattle.mt_render.proofs.Gaining.{gained_more}
use Rattle.mt_render.proofs.Rising.{early, late}
use Rattle.mt_render.proofs.part.Part.add.Goals as goal

pub returns : goal.returns
returns c k h =
    let p = c.args.self.now in
    let f = c.args.first + k in
    let d = c.args.channel in
    let z = gives f d p in
    let a = gives f d c.cut-rising.result in
    let b = gives f d c.cut-between.result in
    let e = gives f d c.cut-falling.result in
    let low = c.min-low.result in
    let high = c.max-high.result in
    let all : (a +ℤ b) +ℤ e ≡ z =
    three _ _ _ _ _ _ (c.cut-rising.ensures f d) (c.cut-between.ensures f d) (c.cut-falling.ensures f d)
    ∙ (thirds (p.at + 0) (p.at + low) (p.at + high) (p.at + p.fades.len) f z (omega arith) (omega arith) (omega arith) (λ out. early p f d (omega arith)) (λ out. late p f d (omega arith))) in
    gained_more (at c.args.sums.now k) (at c.add_at_once-3.new.sums k) (at c.add_at_once-4.new.sums k) (a +ℤ b) e z
    (gained_more (at c.args.sums.now k) (at c.add_at_once-2.new.sums k) (at c.add_at_once-3.new.sums k) a b (a +ℤ b) (c.add_at_once-2.ensures k h) (c.add_at_once-3.ensures k (omega arith)) refl)
    (c.add_at_once-4.ensures k (omega arith)) all

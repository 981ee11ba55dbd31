use Rattle.std.proofs.Common.{◌≡◌, ◌+◌, ◌∙◌, [], ◌∷◌, ◌++◌, take, ap, sym, subst, arith}
use Rattle.std.proofs.lemmas.List.{take_more, take_all}
use Rattle.mt_render.specs.Refusals.{unmuted, LeastOf}
use Rattle.mt_render.proofs.Searching.{least_step}
use Rattle.mt_render.proofs.search.least_of_clips.Goals as goal

pub loop-clip-preserved : goal.loop-clip-preserved
loop-clip-preserved g c = λ seen h.
    let i = c.loop-clip.clip-index in
    let clips = c.args.clips.now in
    let clip = c.clip-item.result in
    let more : take (i + 1) clips ≡ take i clips ++ clip ∷ [] = take_more clips i clip (omega arith) ∙ ap (λ x. take i clips ++ x ∷ []) (sym c.clip-item.is) in
    rw (more, c.least_with-least.ensures) (least_step seen (take i clips) (g.T.Test.fails c.args.test.now) clip c.loop-clip.least (c.loop-clip.invariant seen h))

pub returns : goal.returns
returns g c = λ seen h.
    subst (λ l. LeastOf (seen ++ unmuted l) (g.T.Test.fails c.args.test.now) c.loop-clip.least) (take_all c.loop-clip.clip-index c.args.clips.now (omega arith)) (c.loop-clip.invariant seen h)

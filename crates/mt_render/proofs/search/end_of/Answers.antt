use Rattle.std.proofs.Common.{◌≡◌, ◌+◌, ◌∙◌, [], ◌∷◌, ◌++◌, take, ap, sym, arith}
use Rattle.std.proofs.lemmas.List.{take_more, take_all}
use Rattle.mt_render.specs.Mix.{clips_end}
use Rattle.mt_render.proofs.Searching.{clips_end_push}
use Rattle.mt_render.proofs.search.end_of.Goals as goal

pub loop-clip-preserved : goal.loop-clip-preserved
loop-clip-preserved c =
    let i = c.loop-clip.clip-index in
    let clips = c.args.clips.now in
    let clip = c.clip-item.result in
    let more : take (i + 1) clips ≡ take i clips ++ clip ∷ [] = take_more clips i clip (omega arith) ∙ ap (λ x. take i clips ++ x ∷ []) (sym c.clip-item.is) in (
      c.max-end.ensures ∙ rw (c.loop-clip.invariant.0, c.clip_end.ensures.value) (sym (clips_end_push (take i clips) clip) ∙ ap clips_end (sym more)),
      omega (arith, c.max-end.ensures, c.clip_end.ensures.small, c.loop-clip.invariant.1),
    )

pub returns-clause-value : goal.returns-clause-value
returns-clause-value c = c.loop-clip.invariant.0 ∙ ap clips_end (take_all c.loop-clip.clip-index c.args.clips.now (omega arith))

use Rattle.std.proofs.Common.{◌≡◌, ◌+◌, ◌∙◌, [], ◌∷◌, ◌++◌, take, ap, sym, arith}
use Rattle.std.proofs.lemmas.List.{take_more}
use Rattle.mt_render.specs.Refusals.{audible}
use Rattle.mt_render.proofs.Searching.{audible_push}
use Rattle.mt_render.proofs.search.least.Goals as goal

pub loop-track-preserved : goal.loop-track-preserved
loop-track-preserved g c =
    let i = c.loop-track.track-index in
    let tracks = c.args.tracks.now in
    let track = c.track-item.result in
    let more : take (i + 1) tracks ≡ take i tracks ++ track ∷ [] = take_more tracks i track (omega arith) ∙ ap (λ x. take i tracks ++ x ∷ []) (sym c.track-item.is) in
    rw (more, audible_push (take i tracks) track, ← c.audible_clips.ensures) (c.least_of_clips-least.ensures (audible (take i tracks)) c.loop-track.invariant)

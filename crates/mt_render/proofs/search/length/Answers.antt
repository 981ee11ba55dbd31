use Rattle.std.proofs.Common.{◌≡◌, ◌+◌, ◌∙◌, [], ◌∷◌, ◌++◌, take, ap, sym, arith}
use Rattle.std.proofs.lemmas.List.{take_more}
use Rattle.mt_render.specs.Mix.{length_of}
use Rattle.mt_render.proofs.Searching.{length_push}
use Rattle.mt_render.proofs.search.length.Goals as goal

pub loop-track-preserved : goal.loop-track-preserved
loop-track-preserved g c =
    let i = c.loop-track.track-index in
    let tracks = c.args.tracks.now in
    let track = c.track-item.result in
    let more : take (i + 1) tracks ≡ take i tracks ++ track ∷ [] = take_more tracks i track (omega arith) ∙ ap (λ x. take i tracks ++ x ∷ []) (sym c.track-item.is) in (
      c.max-length.ensures ∙ rw (c.loop-track.invariant.0, c.end_of.ensures.value, c.audible_clips.ensures) (sym (length_push (take i tracks) track) ∙ ap length_of (sym more)),
      omega (arith, c.max-length.ensures, c.end_of.ensures.small, c.loop-track.invariant.1),
    )

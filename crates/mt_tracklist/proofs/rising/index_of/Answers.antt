use Rattle.std.proofs.Common.{rules, Some, ap}
use Rattle.std.proofs.lemmas.List.Sorted.{answers_always}
use Rattle.mt_tracklist.proofs.Linking.{search_found, search_missed}
use Rattle.mt_tracklist.proofs.rising.index_of.Goals as goal

pub returns-in-Ok : goal.returns-in-Ok
returns-in-Ok c = λ there.
    let equal = c.in-Ok.ensures.position (λ placed. placed.place) (answers_always _ _ _ (λ f a r g called. search rules)) in
    ap Some (search_found c.args.places.now c.requires.tree c.requires.rising c.args.stamp there c.in-Ok.found c.in-Ok.ensures.bound equal)

pub returns-in-Err : goal.returns-in-Err
returns-in-Err c = λ there.
    let parted = c.in-Err.ensures.position (λ placed. placed.place) (answers_always _ _ _ (λ f a r g called. search rules)) in
    absurd (search_missed c.args.places.now c.requires.tree c.requires.rising c.args.stamp there c.in-Err.field-0 parted)

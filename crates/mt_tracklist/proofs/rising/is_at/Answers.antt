use Rattle.std.proofs.Common.{◌≡◌, Some, length, refl, sym, ◌∙◌}
use Rattle.std.specs.Prelude.{slice_get}
use Rattle.std.proofs.lemmas.Option.{slice_get_read}
use Rattle.mt_stamp.proofs.Order.{stamp_eq-true}
use Rattle.mt_tracklist.specs.Rising.{given_place}
use Rattle.mt_tracklist.proofs.Linking.{given_at}
use Rattle.mt_tracklist.proofs.rising.is_at.Goals as goal

pub returns-in-Some : goal.returns-in-Some
returns-in-Some c = λ same there.
    let places = c.args.places.now in
    let placed = c.in-Some.placed.now in
    let at : slice_get places c.args.index ≡ Some placed = slice_get_read places (length places) c.args.index placed refl c.in-Some.ensures.lookup.3.0 c.in-Some.ensures.lookup.1 in
    c.requires.tree.apart c.args.index there.index (given_place placed) there.found (given_at places c.args.index placed at) there.at (stamp_eq-true placed.place c.args.stamp (sym c.eq.ensures ∙ same) ∙ sym there.is)

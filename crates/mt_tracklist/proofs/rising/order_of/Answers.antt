use Rattle.std.proofs.Common.{◌≤◌, ℕ, List, length, map, refl, sym, ap, ◌∙◌, subst, arith}
use Rattle.std.specs.Prelude.{slice_get}
use Rattle.std.specs.List.Sorted.{IsStrictlySortedBy}
use Rattle.std.proofs.lemmas.List.{length-map}
use Rattle.std.proofs.lemmas.Option.{slice_get_read}
use Rattle.mt_stamp.specs.Tree.{tree_cmp}
use Rattle.mt_tracklist.specs.Rising.{given_place, given_tree, stamp_at}
use Rattle.mt_tracklist.proofs.Linking.{given_at, there, linked_more, linked_all, had_below}
use Rattle.mt_tracklist.proofs.rising.order_of.Goals as goal

pub link_place-requires-clause-there : goal.link_place-requires-clause-there
link_place-requires-clause-there g c =
    let places = c.args.places.now in
    let n = c.loop-index.index in
    let t = c.index-places-index.result in
    let here = given_at places n t (slice_get_read places (length places) n t refl (omega arith) c.index-places-index.is) in
    λ p is. there (given_tree places) c.requires.tree c.requires.rising c.loop-index.chain.items n (given_place t) here c.loop-index.invariant.linked p (ap (λ x. x.after) c.index-places-index.is ∙ is)

pub loop-index-preserved : goal.loop-index-preserved
loop-index-preserved g c =
    let places = c.args.places.now in
    let n = c.loop-index.index in
    let t = c.index-places-index.result in
    let here = given_at places n t (slice_get_read places (length places) n t refl (omega arith) c.index-places-index.is) in
    record {
      count = c.link_place.ensures.count ∙ c.loop-index.invariant.count;
      linked = linked_more (given_tree places) c.requires.tree c.requires.rising c.loop-index.chain.items n (given_place t) here c.loop-index.invariant.linked
          _ c.link_place.new.chain.items (ap (λ x. x.after) c.index-places-index.is) c.link_place.ensures.items;
    }

pub returns-clause-below : goal.returns-clause-below
returns-clause-below g c = λ k p at.
    let below = had_below (given_tree c.args.places.now) c.loop-index.chain.items c.loop-index.index c.loop-index.invariant.linked k p (ap (λ (l : List ℕ). slice_get l k) (sym c.in_ok-to_vec.ensures) ∙ at) in
    omega (arith, below, c.loop-index.auto.index-end)

pub returns-clause-sorted : goal.returns-clause-sorted
returns-clause-sorted g c =
    let trees = given_tree c.args.places.now in
    let long : length trees ≤ c.loop-index.index = (let a = length-map c.args.places.now given_place in omega (arith, a)) in
    subst (λ (l : List ℕ). IsStrictlySortedBy (tree_cmp trees) (map (stamp_at trees) l)) (sym c.in_ok-to_vec.ensures)
    (linked_all trees c.requires.tree c.requires.rising c.loop-index.chain.items c.loop-index.index long c.loop-index.invariant.linked)

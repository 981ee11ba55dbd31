use Rattle.mt_tracklist.proofs.Skipping.{put_in_ordered}
use Rattle.mt_tracklist.proofs.track_list.TrackList.insert.Goals as goal

pub invariant_of-self-2 : goal.invariant_of-self-2
invariant_of-self-2 g c =
    put_in_ordered c.self.inside.places.items c.deref.result.now c.deref-2.result.now c.deref-3.result.now c.insert.new.self.items
    (record { place = c.args.place; after = c.args.after; track = c.args.track }) c.has_place.result c.in-Some.start c.after_skipping-index.result
    c.self.invariant c.deref.ensures.value c.deref-2.ensures.value c.deref-3.ensures.value c.has_place.ensures c.if-has_place.false c.in-Some.ensures c.requires.newer c.after_skipping-index.ensures.value
    c.in_ok-insert.ensures.items

pub returns-clause-ordered : goal.returns-clause-ordered
returns-clause-ordered g c = invariant_of-self-2 g c

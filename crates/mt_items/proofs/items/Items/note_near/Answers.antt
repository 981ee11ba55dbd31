use Rattle.std.proofs.Common.{List, subst, sym}
use Rattle.mt_op.specs.declared.need.Role.TheVariants.{Track, Place, Clip, Marker}
use Rattle.mt_op.specs.Operation.{Operation}
use Rattle.mt_items.specs.All.{HoldsAll}
use Rattle.mt_items.specs.Noting.{MayFollow}
use Rattle.mt_items.proofs.Each.{new_item}
use Rattle.mt_items.proofs.items.Items.note_near.Goals as goal

pub invariant_of-result : goal.invariant_of-result
invariant_of-result g c =
    let held = c.self.invariant in
    let ops = c.self.inside.noted.items in
    let o = c.args.op.now in
    let follows : MayFollow ops o = subst (λ (l : List Operation). MayFollow l o) (sym c.self.view_is) c.requires.follows in
    subst (λ (l : List Operation). HoldsAll l c.note.new.tracks c.note-2.new.clips c.note-3.new.markers c.note-4.new.places) (sym c.and.ensures) (record {
      noted = (follows, held.noted);
      tracks = c.in_ok-note.ensures.ok ops follows held.noted held.tracks;
      clips = c.in_ok-note-2.ensures.ok ops follows held.noted held.clips;
      markers = c.in_ok-note-3.ensures.ok ops follows held.noted held.markers;
      places = c.in_ok-note-4.ensures.ok ops held.places;
    })

pub note-requires : goal.note-requires
note-requires g c = record { new = new_item Track c.args.op.now c.self.inside.noted.items c.self.inside.tracks (subst (λ (l : List Operation). MayFollow l c.args.op.now) (sym c.self.view_is) c.requires.follows) c.self.invariant.tracks.keys }

pub note-requires-2 : goal.note-requires-2
note-requires-2 g c = record { new = new_item Clip c.args.op.now c.self.inside.noted.items c.self.inside.clips (subst (λ (l : List Operation). MayFollow l c.args.op.now) (sym c.self.view_is) c.requires.follows) c.self.invariant.clips.keys }

pub note-requires-3 : goal.note-requires-3
note-requires-3 g c = record { new = new_item Marker c.args.op.now c.self.inside.noted.items c.self.inside.markers (subst (λ (l : List Operation). MayFollow l c.args.op.now) (sym c.self.view_is) c.requires.follows) c.self.invariant.markers.keys }

pub note-requires-4 : goal.note-requires-4
note-requires-4 g c = record { new = new_item Place c.args.op.now c.self.inside.noted.items c.self.inside.places (subst (λ (l : List Operation). MayFollow l c.args.op.now) (sym c.self.view_is) c.requires.follows) c.self.invariant.places.keys }

use Rattle.std.proofs.Common.{◌∙◌, List, sym, ap, subst}
use Rattle.mt_op.specs.Operation.{Operation}
use Rattle.mt_items.specs.Noting.{AreNoted}
use Rattle.mt_sessionview.specs.Content.{Content}
use Rattle.mt_mending.specs.Before.{ArePlacesOf}
use Rattle.mt_mending.specs.Mending.{session_in}
use Rattle.mt_replica.proofs.view.note_shown.Goals as goal

pub returns-clause-shown : goal.returns-clause-shown
returns-clause-shown g c =
    let session = c.in_ok-mend.ensures.ok in
    record {
      places_are = subst (λ (ops : List Operation). ArePlacesOf c.add_place.new.list ops) (sym c.in_ok-items.ensures.ok) c.in_ok-add_place.ensures.ok;
      session_is = session ∙ ap (session_in c.in_ok-items.items) (sym (ap (λ (s : Content). s.held) session));
    }

pub add_place-requires-clause-follows : goal.add_place-requires-clause-follows
add_place-requires-clause-follows g c = (c.requires.follows, subst AreNoted c.items.view_is c.items.invariant.noted)

pub add_place-requires-clause-places : goal.add_place-requires-clause-places
add_place-requires-clause-places g c = c.requires.shown.places_are

pub mend-requires-clause-places : goal.mend-requires-clause-places
mend-requires-clause-places g c = subst (λ (ops : List Operation). ArePlacesOf c.add_place.new.list ops) (sym c.in_ok-items.ensures.ok) c.in_ok-add_place.ensures.ok

pub mend-requires-clause-stood : goal.mend-requires-clause-stood
mend-requires-clause-stood g c = record {
  before = c.args.items;
  one_more = record {
    last = c.args.op.now;
    are = c.in_ok-items.ensures.ok;
    noted = subst AreNoted (sym c.in_ok-items.ensures.ok) (c.requires.follows, subst AreNoted c.items.view_is c.items.invariant.noted);
    about = c.item-item.ensures;
  };
  tracks_are = ap (λ (s : Content). s.tracks) c.requires.shown.session_is;
  markers_are = ap (λ (s : Content). s.markers) c.requires.shown.session_is;
  stood_is = c.stood-stood.ensures;
}

pub returns-clause-items : goal.returns-clause-items
returns-clause-items g c = c.in_ok-items.ensures.ok

pub returns-clause-held : goal.returns-clause-held
returns-clause-held g c = ap (λ (s : Content). s.held) c.in_ok-mend.ensures.ok

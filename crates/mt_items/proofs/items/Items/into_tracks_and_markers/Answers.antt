use Rattle.std.proofs.Common.{List, subst, sym}
use Rattle.std.specs.List.{AllByRecursion}
use Rattle.mt_stamp.specs.Moment.{Moment}
use Rattle.mt_op.specs.Operation.{Operation}
use Rattle.mt_items.specs.Cells.{HoldsTracks, HoldsMarker}
use Rattle.mt_items.specs.declared.cells.MarkerCells.{MarkerCells}
use Rattle.mt_items.proofs.Entries.{all_entries}
use Rattle.mt_items.proofs.items.Items.into_tracks_and_markers.Goals as goal

pub returns-clause-tracks : goal.returns-clause-tracks
returns-clause-tracks g c = subst (λ (ops : List Operation). HoldsTracks ops c.self.inside.tracks) c.self.view_is c.self.invariant.tracks

pub returns-clause-each_marker : goal.returns-clause-each_marker
returns-clause-each_marker g c =
    let Q : Moment × MarkerCells g.row.A.Denot → Type 0 = λ e. HoldsMarker e.0 c.args.self e.1 in
    subst (AllByRecursion Q) (sym c.into_entries.ensures.items)
    (all_entries Q c.self.inside.markers c.into_entries.ensures.differ (λ item cells found. subst (λ (ops : List Operation). HoldsMarker item ops cells) c.self.view_is (c.self.invariant.markers.each item cells found)))

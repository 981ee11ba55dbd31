use Rattle.std.proofs.Common.{List, subst}
use Rattle.std.specs.List.{IsDistinct}
use Rattle.std.specs.Map.{keys_of}
use Rattle.mt_stamp.specs.Moment.{Moment, stamp_eq}
use Rattle.mt_stampmap.proofs.Finding.{distinct, one_index}
use Rattle.mt_stampmap.proofs.map.StampMap.into_entries.Goals as goal

pub returns-clause-differ : goal.returns-clause-differ
returns-clause-differ g c =
    subst (λ (es : List (Moment × g.row.V.Denot)). IsDistinct stamp_eq (keys_of es)) c.self.view_is (distinct (keys_of c.self.inside.entries.items) (one_index (keys_of c.self.inside.entries.items) c.self.inside.index.value c.self.invariant))

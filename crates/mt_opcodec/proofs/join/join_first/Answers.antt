use Rattle.std.proofs.Common.{ap, List}
use Rattle.std.specs.Prelude.{slice_get}
use Rattle.mt_opcodec.specs.Runs.{RunOf}
use Rattle.mt_opcodec.proofs.join.join_first.Goals as goal

pub join-requires : goal.join-requires
join-requires g c = c.requires _ _ (ap (λ (l : List RunOf). slice_get l 0) c.in-Some.ensures.items) (ap (λ (l : List RunOf). slice_get l 0) c.in-Some-second.ensures.items)

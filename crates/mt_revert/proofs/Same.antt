-- Which stamps are listed decides what is taken back.
use Rattle.std.proofs.Common.{◌≡◌, List, [], ◌∷◌, map, filter, refl, ap}
use Rattle.mt_op.specs.Operation.{Operation}
use Rattle.mt_op.specs.Presence.{is_listed}
use Rattle.mt_revert.specs.Before.{by_stamp, now, taken_back}
use Rattle.mt_revert.specs.Revert.{revert_lines}
use Rattle.mt_revert.specs.Laws.{ListedAlone, NoneTakesNone}

pub listed_decides : ListedAlone
listed_decides log one other same =
    λ i. revert_lines log (now log) (map (taken_back log) (filter (λ (o : Operation). same o.stamp i) (by_stamp log)))

none_kept : (ops : List Operation) → filter (λ o. is_listed [] o.stamp) ops ≡ []
none_kept [] = refl
none_kept (o ∷ ops) = none_kept ops

pub none_of : NoneTakesNone
none_of log = ap (λ (l : List Operation). revert_lines log (now log) (map (taken_back log) l)) (none_kept (by_stamp log))

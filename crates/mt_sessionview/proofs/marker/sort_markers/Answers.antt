use Rattle.std.proofs.Common.{rules}
use Rattle.std.proofs.lemmas.List.Sorted.{answers_always}
use Rattle.mt_sessionview.proofs.marker.sort_markers.Goals as goal

pub returns-clause-sorted : goal.returns-clause-sorted
returns-clause-sorted g c = c.in_ok-sort_by_key.ensures.sorted (λ m. (m.at, m.marker)) (answers_always _ _ _ (λ f a r g h. search rules))

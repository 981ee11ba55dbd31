-- The union of logs is that of the unions of two halves of them.
use Rattle.std.proofs.Common.{◌≡◌, ℕ, ◌≤◌, List, [], ◌∷◌, ◌++◌, length, take, drop, sym, ap, ◌∙◌, subst, arith}
use Rattle.std.specs.List.{AllByRecursion}
use Rattle.std.proofs.lemmas.List.{length-append, take-append-drop}
use Rattle.mt_opcodec.specs.LogValue.{LogMap}
use Rattle.mt_opcodec.specs.Laws.{PairsAgree}
use Rattle.mt_opcodec.specs.Union.{Agree, union, union_all}
use Rattle.mt_opcodec.proofs.Union.{union_is_union}
use Rattle.mt_opcodec.proofs.Agreements.{flip, of_both}
use Rattle.mt_opcodec.proofs.JoiningAll.{none_first, first_apart, with_nothing, with_all}

-- ---- the logs of two halves

pub all_apart : (a b : List LogMap) → union_all (a ++ b) ≡ union (union_all a) (union_all b)
all_apart [] b = sym (none_first (union_all b))
all_apart (x ∷ a) b =
    first_apart x (a ++ b) ∙ ap (union x) (all_apart a b) ∙ sym (union_is_union.associative x (union_all a) (union_all b)) ∙ ap (λ (m : LogMap). union m (union_all b)) (sym (first_apart x a))

-- logs that agree do so in halves, and so do the unions of these

pub pairs_first : (a b : List LogMap) → PairsAgree (a ++ b) → PairsAgree a
pairs_first [] b h = tt
pairs_first (x ∷ a) b h = (each_of_first x a b h.0, pairs_first a b h.1)
  where
    each_of_first : (y : LogMap) (c d : List LogMap) → AllByRecursion (Agree y) (c ++ d) → AllByRecursion (Agree y) c
    each_of_first y [] d all = tt
    each_of_first y (z ∷ c) d all = (all.0, each_of_first y c d all.1)

pub pairs_second : (a b : List LogMap) → PairsAgree (a ++ b) → PairsAgree b
pairs_second [] b h = h
pairs_second (x ∷ a) b h = pairs_second a b h.1

pub halves_agree : (a b : List LogMap) → PairsAgree (a ++ b) → Agree (union_all a) (union_all b)
halves_agree [] b h = flip (union_all b) (union_all []) (with_nothing (union_all b))
halves_agree (x ∷ a) b h =
    subst (λ (m : LogMap). Agree m (union_all b)) (sym (first_apart x a))
    (of_both x (union_all a) (union_all b) (with_all x b (each_of_second x a b h.0)) (halves_agree a b h.1))
  where
    each_of_second : (y : LogMap) (c d : List LogMap) → AllByRecursion (Agree y) (c ++ d) → AllByRecursion (Agree y) d
    each_of_second y [] d all = all
    each_of_second y (z ∷ c) d all = each_of_second y c d all.1

pub halves_are : {X : Type 0} (n : ℕ) (xs first second : List X) → first ≡ take n xs → second ≡ drop n xs → first ++ second ≡ xs
halves_are n xs first second is_first is_second = (λ i. is_first i ++ is_second i) ∙ take-append-drop n xs

-- the last of one log is that log
pub last_alone : (logs rest : List LogMap) (log : LogMap) → logs ≡ rest ++ log ∷ [] → length logs ≤ 1 → log ≡ union_all logs
last_alone logs [] log is few = sym (ap union_all is ∙ none_first log)
last_alone logs (x ∷ rest) log is few = absurd (omega (arith, few, ap length is, length-append rest (log ∷ [])))

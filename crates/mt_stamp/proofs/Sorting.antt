-- A sorted permutation is what sorting gives, where items that tie are one.
use Rattle.std.proofs.Common.{◌≡◌, ℕ, ◌+◌, ◌<◌, ◌≤◌, Bool, true, false, List, [], ◌∷◌, length, get_or, suc, refl, sym, ap, ◌∙◌, arith}
use Rattle.std.specs.Cmp.{IsTotalOrder, IsStrictWeakOrder}
use Rattle.std.specs.Ordering.{is_lt, ordering_reverse, match_ordering}
use Rattle.std.specs.declared.cmp.Ordering.{Ordering}
use Rattle.std.specs.declared.cmp.Ordering.TheVariants.{Less, Equal, Greater}
use Rattle.std.specs.List.{All, AllByRecursion, sum_by}
use Rattle.std.specs.List.Sorted.{IsPermutation, IsSorted}
use Rattle.std.proofs.lemmas.List.Sums.{sum_by-cons}
use Rattle.std.proofs.lemmas.List.Elements.{recursion_from_All}
use Rattle.std.proofs.lemmas.List.Sorted.{ranks_by, sorted_far, sum_by-IsPermutation, All-permutation}
use Rattle.mt_stamp.specs.Sorting as rising
use Rattle.mt_stamp.proofs.Differing.{all_insert, all_sorted}
use Rattle.mt_stamp.specs.Sorting.{insert_by, sort_by, Sorts}

tie_from_both : (o p : Ordering) → o ≡ ordering_reverse p → is_lt o ≡ false → is_lt p ≡ false → o ≡ Equal
tie_from_both Less p e h k = absurd cc
tie_from_both Equal p e h k = refl
tie_from_both Greater Less e h k = absurd cc
tie_from_both Greater Equal e h k = absurd cc
tie_from_both Greater Greater e h k = absurd cc

-- a test as a number
abbrev counted : Bool → ℕ
counted true = 1
counted false = 0

not_counted : (b : Bool) → counted b ≡ 0 → b ≡ false
not_counted true e = absurd (omega arith)
not_counted false e = refl

none_counted : {X : Type 0} (p : X → Bool) (xs : List X) → AllByRecursion (λ x. p x ≡ false) xs → sum_by (λ x. counted (p x)) xs ≡ 0
none_counted p [] h = refl
none_counted p (x ∷ xs) h =
    let here : counted (p x) ≡ 0 = ap counted h.0 in
    omega (arith, here, sum_by-cons (λ y. counted (p y)) x xs, none_counted p xs h.1)

module _ {X : Type 0} (cmp : X → X → Ordering) (order : IsTotalOrder cmp) where
  abbrev precedes : X → X → Bool
  precedes x y = is_lt (cmp x y)

  weak : IsStrictWeakOrder precedes
  weak = ranks_by order (λ x. x)

  -- no item precedes an earlier one
  abbrev Rises : List X → Type 0
  Rises xs = rising.Rises cmp xs

  same : (x : X) → precedes x x ≡ false
  same x = elim (precedes x x) as (λ b. precedes x x ≡ b → b ≡ false) [ true ↦ (λ e. sym e ∙ weak.one_way x x e) | false ↦ (λ e. refl) ] refl

  all_after : (x y : X) (zs : List X) → precedes y x ≡ false → AllByRecursion (λ z. precedes z y ≡ false) zs → AllByRecursion (λ z. precedes z x ≡ false) zs
  all_after x y [] h all = tt
  all_after x y (z ∷ zs) h all = (weak.chain z y x all.0 h, all_after x y zs h all.1)

  rises_before : (x y : X) (ys : List X) → precedes y x ≡ false → Rises (y ∷ ys) → Rises (x ∷ y ∷ ys)
  rises_before x y ys h rise = ((h, all_after x y ys h rise.0), rise)

  turned_less : (x y : X) → cmp x y ≡ Less → precedes y x ≡ false
  turned_less x y e = weak.one_way x y (ap is_lt e)

  turned_equal : (x y : X) → cmp x y ≡ Equal → precedes y x ≡ false
  turned_equal x y e = ap is_lt (order.antisymm y x ∙ ap ordering_reverse e)

  rises_insert : (x : X) (ys : List X) → Rises ys → Rises (insert_by cmp x ys)
  rises_insert x [] rise = (tt, tt)
  rises_insert x (y ∷ ys) rise = elim (cmp x y) as (λ o. cmp x y ≡ o → Rises (match_ordering o (x ∷ y ∷ ys) (x ∷ y ∷ ys) (y ∷ insert_by cmp x ys))) [
    | Less ↦ (λ e. rises_before x y ys (turned_less x y e) rise)
    | Equal ↦ (λ e. rises_before x y ys (turned_equal x y e) rise)
    | Greater ↦ (λ e. (all_insert cmp (λ z. precedes z y ≡ false) x ys (ap is_lt e) rise.0, rises_insert x ys rise.1))
  ] refl

  rises_sort : (xs : List X) → Rises (sort_by cmp xs)
  rises_sort [] = tt
  rises_sort (x ∷ xs) = rises_insert x (sort_by cmp xs) (rises_sort xs)

  sum_insert : (f : X → ℕ) (x : X) (ys : List X) → sum_by f (insert_by cmp x ys) ≡ f x + sum_by f ys
  sum_insert f x [] = sum_by-cons f x []
  sum_insert f x (y ∷ ys) = elim (cmp x y) as (λ o. sum_by f (match_ordering o (x ∷ y ∷ ys) (x ∷ y ∷ ys) (y ∷ insert_by cmp x ys)) ≡ f x + sum_by f (y ∷ ys)) [
    | Less ↦ sum_by-cons f x (y ∷ ys)
    | Equal ↦ sum_by-cons f x (y ∷ ys)
    | Greater ↦ omega (arith, sum_by-cons f y (insert_by cmp x ys), sum_by-cons f y ys, sum_insert f x ys)
  ]

  sum_sort : (f : X → ℕ) (xs : List X) → sum_by f (sort_by cmp xs) ≡ sum_by f xs
  sum_sort f [] = refl
  sum_sort f (x ∷ xs) = omega (arith, sum_insert f x (sort_by cmp xs), sum_sort f xs, sum_by-cons f x xs)

  pub sorts : Sorts cmp
  sorts = record { rises = rises_sort; same = sum_sort }

  -- the first of a rising list does not come after what the other list begins with
  first_before : (y z : X) (ys zs : List X) → Rises (z ∷ zs) → ((f : X → ℕ) → sum_by f (y ∷ ys) ≡ sum_by f (z ∷ zs)) → precedes y z ≡ false
  first_before y z ys zs rise sums =
      let f : X → ℕ = λ v. counted (precedes v z) in
      let none = none_counted (λ v. precedes v z) (z ∷ zs) (same z, rise.0) in
      not_counted (precedes y z) (omega (arith, sums f, sum_by-cons f y ys, none))

  -- two rising lists with the same items are one, where items that tie are one
  unique : (P : X → Type 0) → ((a b : X) → P a → P b → cmp a b ≡ Equal → a ≡ b) → (ys zs : List X) → Rises ys → Rises zs → AllByRecursion P ys → AllByRecursion P zs
      → ((f : X → ℕ) → sum_by f ys ≡ sum_by f zs) → ys ≡ zs
  unique P apart [] [] y_rise z_rise all_y all_z sums = refl
  unique P apart [] (z ∷ zs) y_rise z_rise all_y all_z sums = absurd (omega (arith, sums (λ v. 1), sum_by-cons (λ v. 1) z zs))
  unique P apart (y ∷ ys) [] y_rise z_rise all_y all_z sums = absurd (omega (arith, sums (λ v. 1), sum_by-cons (λ v. 1) y ys))
  unique P apart (y ∷ ys) (z ∷ zs) y_rise z_rise all_y all_z sums =
      let tied : cmp y z ≡ Equal = tie_from_both (cmp y z) (cmp z y) (order.antisymm y z) (first_before y z ys zs z_rise sums) (first_before z y zs ys y_rise (λ f. sym (sums f))) in
      let first : y ≡ z = apart y z all_y.0 all_z.0 tied in
      let rest : ys ≡ zs = unique P apart ys zs y_rise.1 z_rise.1 all_y.1 all_z.1 (λ f. omega (arith, sums f, sum_by-cons f y ys, sum_by-cons f z zs, ap f first)) in
      cc

  rises_from_far : (xs : List X) → ((i j : ℕ) (d : X) → i ≤ j → j < length xs → precedes (get_or xs j d) (get_or xs i d) ≡ false) → Rises xs
  rises_from_far [] far = tt
  rises_from_far (x ∷ xs) far =
      (recursion_from_All (λ y. precedes y x ≡ false) xs (λ k d h. far 0 (suc k) d (omega arith) (omega arith)), rises_from_far xs (λ i j d le lt. far (suc i) (suc j) d (omega arith) (omega arith)))

  pub sorted_is_sort_by : (P : X → Type 0) → ((a b : X) → P a → P b → cmp a b ≡ Equal → a ≡ b) → (xs ys : List X) → All P xs → IsPermutation xs ys → IsSorted cmp ys → ys ≡ sort_by cmp xs
  sorted_is_sort_by P apart xs ys all moved sorted =
      unique P apart ys (sort_by cmp xs) (rises_from_far ys (sorted_far precedes weak ys sorted)) (rises_sort xs)
      (recursion_from_All P ys (All-permutation P xs ys moved all)) (all_sorted cmp P xs (recursion_from_All P xs all))
      (λ f. sum_by-IsPermutation f xs ys moved ∙ sym (sum_sort f xs))

  -- lists with the same items are one once they are sorted, where items that tie are one
  pub sort_same : (P : X → Type 0) → ((a b : X) → P a → P b → cmp a b ≡ Equal → a ≡ b) → (xs ys : List X) → AllByRecursion P xs → AllByRecursion P ys → ((f : X → ℕ) → sum_by f xs ≡ sum_by f ys) → sort_by cmp xs ≡ sort_by cmp ys
  sort_same P apart xs ys all_x all_y sums =
      unique P apart (sort_by cmp xs) (sort_by cmp ys) (rises_sort xs) (rises_sort ys) (all_sorted cmp P xs all_x) (all_sorted cmp P ys all_y) (λ f. sum_sort f xs ∙ sums f ∙ sym (sum_sort f ys))

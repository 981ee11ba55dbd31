-- Lists that rise strictly are one where they have the same members.
use Rattle.std.proofs.Common.{◌≡◌, ◌≢◌, ℕ, zero, suc, Bool, true, false, cond, List, [], ◌∷◌, Some, refl, sym, ap, ◌∙◌, subst, ◌⊎◌, inl, inr}
use Rattle.std.specs.Prelude.{slice_get}
use Rattle.std.specs.Cmp.{IsTotalOrder, tied_itself}
use Rattle.std.specs.Ordering.{match_ordering, ordering_reverse}
use Rattle.std.specs.declared.cmp.Ordering.{Ordering}
use Rattle.std.specs.declared.cmp.Ordering.TheVariants.{Less, Equal, Greater}
use Rattle.std.specs.List.{AllByRecursion, filter}
use Rattle.std.proofs.lemmas.Option.{same_Some, none-some}
use Rattle.mt_stamp.specs.Sorting.{insert_by, sort_by, RisesStrictly}
use Rattle.mt_stamp.proofs.Differing.{all_insert, all_sorted}

-- x is one of them
abbrev pub IsMember : {X : Type 0} → X → List X → Type 0
IsMember x [] = ⊥
IsMember x (y ∷ ys) = (y ≡ x) ⊎ IsMember x ys

pub member_at : {X : Type 0} (xs : List X) (k : ℕ) (x : X) → slice_get xs k ≡ Some x → IsMember x xs
member_at [] k x at = absurd (none-some x at)
member_at (y ∷ xs) zero x at = inl (same_Some y x at)
member_at (y ∷ xs) (suc k) x at = inr (member_at xs k x at)

-- where a member stands
pub record StandsIn {X : Type 0} (xs : List X) (x : X) : Type 0 where
  pub place : ℕ
  pub at : slice_get xs place ≡ Some x

pub member_stands : {X : Type 0} (xs : List X) (x : X) → IsMember x xs → StandsIn xs x
member_stands [] x m = absurd m
member_stands (y ∷ xs) x (inl same) = record { place = 0; at = ap Some same }
member_stands (y ∷ xs) x (inr later) = let s = member_stands xs x later in record { place = suc s.place; at = s.at }

-- a member that passes stays
pub member_kept : {X : Type 0} (p : X → Bool) (xs : List X) (x : X) → IsMember x xs → p x ≡ true → IsMember x (filter p xs)
member_kept p [] x m passes = absurd m
member_kept {X} p (y ∷ xs) x (inl same) passes =
    let P : Bool → Type 0 = λ b. IsMember x (cond b (y ∷ filter p xs) (filter p xs)) in
    subst P (sym (ap p same ∙ passes)) (inl same)
member_kept {X} p (y ∷ xs) x (inr later) passes = by (p y) (member_kept p xs x later passes)
  where
    by : (b : Bool) → IsMember x (filter p xs) → IsMember x (cond b (y ∷ filter p xs) (filter p xs))
    by true m = inr m
    by false m = m

-- what stays is a member, and passes
pub member_of_kept : {X : Type 0} (p : X → Bool) (xs : List X) (x : X) → IsMember x (filter p xs) → IsMember x xs × (p x ≡ true)
member_of_kept p [] x m = absurd m
member_of_kept {X} p (y ∷ xs) x m = by (p y) refl m (member_of_kept p xs x)
  where
    by : (b : Bool) → p y ≡ b → IsMember x (cond b (y ∷ filter p xs) (filter p xs)) → (IsMember x (filter p xs) → IsMember x xs × (p x ≡ true)) → IsMember x (y ∷ xs) × (p x ≡ true)
    by true is (inl same) rest = (inl same, ap p (sym same) ∙ is)
    by true is (inr later) rest = let r = rest later in (inr r.0, r.1)
    by false is later rest = let r = rest later in (inr r.0, r.1)

module _ {X : Type 0} (cmp : X → X → Ordering) (order : IsTotalOrder cmp) where
  -- no two of them tie
  abbrev pub AreApart : List X → Type 0
  AreApart [] = Unit {0}
  AreApart (x ∷ xs) = AllByRecursion (λ y. cmp x y ≢ Equal) xs × AreApart xs

  all_at : (P : X → Type 0) (xs : List X) → AllByRecursion P xs → (v : X) → IsMember v xs → P v
  all_at P [] all v m = absurd m
  all_at P (x ∷ xs) all v (inl same) = subst P same all.0
  all_at P (x ∷ xs) all v (inr later) = all_at P xs all.1 v later

  not_itself : (x : X) → cmp x x ≡ Less → ⊥
  not_itself x less = let e = sym less ∙ tied_itself order x in cc e

  not_both : (x y : X) → cmp x y ≡ Less → cmp y x ≡ Less → ⊥
  not_both x y a b = not_itself x (order.trans x y x a b)

  first_same : (x y : X) (xs ys : List X) → AllByRecursion (λ z. cmp x z ≡ Less) xs → AllByRecursion (λ z. cmp y z ≡ Less) ys → IsMember x (y ∷ ys) → IsMember y (x ∷ xs) → x ≡ y
  first_same x y xs ys x_first y_first (inl same) in_xs = sym same
  first_same x y xs ys x_first y_first (inr later) (inl same) = same
  first_same x y xs ys x_first y_first (inr later) (inr earlier) = absurd (not_both x y (all_at (λ z. cmp x z ≡ Less) xs x_first y earlier) (all_at (λ z. cmp y z ≡ Less) ys y_first x later))

  rest_member : (x y v : X) (xs ys : List X) → x ≡ y → AllByRecursion (λ z. cmp x z ≡ Less) xs → IsMember v xs → IsMember v (y ∷ ys) → IsMember v ys
  rest_member x y v xs ys first less m (inl same) = absurd (not_itself x (let lt = all_at (λ z. cmp x z ≡ Less) xs less v m in ap (cmp x) (first ∙ same) ∙ lt))
  rest_member x y v xs ys first less m (inr later) = later

  -- strictly rising lists with the same members
  pub one_list : (xs ys : List X) → RisesStrictly cmp xs → RisesStrictly cmp ys → ((v : X) → IsMember v xs → IsMember v ys) → ((v : X) → IsMember v ys → IsMember v xs) → xs ≡ ys
  one_list [] [] x_rise y_rise there back = refl
  one_list [] (y ∷ ys) x_rise y_rise there back = absurd (back y (inl refl))
  one_list (x ∷ xs) [] x_rise y_rise there back = absurd (there x (inl refl))
  one_list (x ∷ xs) (y ∷ ys) x_rise y_rise there back =
      let first : x ≡ y = first_same x y xs ys x_rise.0 y_rise.0 (there x (inl refl)) (back y (inl refl)) in
      let rest : xs ≡ ys = one_list xs ys x_rise.1 y_rise.1 (λ v m. rest_member x y v xs ys first x_rise.0 m (there v (inr m))) (λ v m. rest_member y x v ys xs (sym first) y_rise.0 m (back v (inr m))) in
      λ i. first i ∷ rest i

  all_less : (x y : X) (ys : List X) → cmp x y ≡ Less → AllByRecursion (λ z. cmp y z ≡ Less) ys → AllByRecursion (λ z. cmp x z ≡ Less) ys
  all_less x y [] less all = tt
  all_less x y (z ∷ ys) less all = (order.trans x y z less all.0, all_less x y ys less all.1)

  pub strict_insert : (x : X) (ys : List X) → AllByRecursion (λ y. cmp x y ≢ Equal) ys → RisesStrictly cmp ys → RisesStrictly cmp (insert_by cmp x ys)
  strict_insert x [] apart rise = (tt, tt)
  strict_insert x (y ∷ ys) apart rise = by (cmp x y) refl (strict_insert x ys apart.1 rise.1)
    where
      by : (o : Ordering) → cmp x y ≡ o → RisesStrictly cmp (insert_by cmp x ys) → RisesStrictly cmp (match_ordering o (x ∷ y ∷ ys) (x ∷ y ∷ ys) (y ∷ insert_by cmp x ys))
      by Less is rest = ((is, all_less x y ys is rise.0), rise)
      by Equal is rest = absurd (apart.0 is)
      by Greater is rest = (all_insert cmp (λ z. cmp y z ≡ Less) x ys (order.antisymm y x ∙ ap ordering_reverse is) rise.0, rest)

  -- sorting what does not tie
  pub sort_strict : (xs : List X) → AreApart xs → RisesStrictly cmp (sort_by cmp xs)
  sort_strict [] apart = tt
  sort_strict (x ∷ xs) apart = strict_insert x (sort_by cmp xs) (all_sorted cmp (λ y. cmp x y ≢ Equal) xs apart.0) (sort_strict xs apart.1)

  member_inserted : (v x : X) (ys : List X) → IsMember v (x ∷ ys) → IsMember v (insert_by cmp x ys)
  member_inserted v x [] m = m
  member_inserted v x (y ∷ ys) m = by (cmp x y) m (member_inserted v x ys)
    where
      by : (o : Ordering) → IsMember v (x ∷ y ∷ ys) → (IsMember v (x ∷ ys) → IsMember v (insert_by cmp x ys)) → IsMember v (match_ordering o (x ∷ y ∷ ys) (x ∷ y ∷ ys) (y ∷ insert_by cmp x ys))
      by Less there rest = there
      by Equal there rest = there
      by Greater (inl new) rest = inr (rest (inl new))
      by Greater (inr (inl first)) rest = inl first
      by Greater (inr (inr later)) rest = inr (rest (inr later))

  member_was : (v x : X) (ys : List X) → IsMember v (insert_by cmp x ys) → IsMember v (x ∷ ys)
  member_was v x [] m = m
  member_was v x (y ∷ ys) m = by (cmp x y) m (member_was v x ys)
    where
      moved : IsMember v (x ∷ ys) → IsMember v (x ∷ y ∷ ys)
      moved (inl new) = inl new
      moved (inr later) = inr (inr later)

      by : (o : Ordering) → IsMember v (match_ordering o (x ∷ y ∷ ys) (x ∷ y ∷ ys) (y ∷ insert_by cmp x ys)) → (IsMember v (insert_by cmp x ys) → IsMember v (x ∷ ys)) → IsMember v (x ∷ y ∷ ys)
      by Less there rest = there
      by Equal there rest = there
      by Greater (inl first) rest = inr (inl first)
      by Greater (inr later) rest = moved (rest later)

  pub member_sorted : (v : X) (xs : List X) → IsMember v xs → IsMember v (sort_by cmp xs)
  member_sorted v [] m = m
  member_sorted v (x ∷ xs) (inl same) = member_inserted v x (sort_by cmp xs) (inl same)
  member_sorted v (x ∷ xs) (inr later) = member_inserted v x (sort_by cmp xs) (inr (member_sorted v xs later))

  pub member_unsorted : (v : X) (xs : List X) → IsMember v (sort_by cmp xs) → IsMember v xs
  member_unsorted v [] m = m
  member_unsorted v (x ∷ xs) m = by (member_was v x (sort_by cmp xs) m) (member_unsorted v xs)
    where
      by : IsMember v (x ∷ sort_by cmp xs) → (IsMember v (sort_by cmp xs) → IsMember v xs) → IsMember v (x ∷ xs)
      by (inl same) rest = inl same
      by (inr later) rest = inr (rest later)

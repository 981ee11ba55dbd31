-- Lists whose items differ by a key.
use Rattle.std.proofs.Common.{◌≡◌, ◌≢◌, Bool, true, false, cond, List, [], ◌∷◌, map, sym}
use Rattle.std.specs.List.{AllByRecursion, filter}
use Rattle.std.specs.Ordering.{match_ordering}
use Rattle.std.specs.declared.cmp.Ordering.{Ordering}
use Rattle.std.specs.declared.cmp.Ordering.TheVariants.{Less, Equal, Greater}
use Rattle.mt_stamp.specs.Sorting.{insert_by, sort_by, DifferBy}

pub all_kept : {X : Type 0} (P : X → Type 0) (p : X → Bool) (xs : List X) → AllByRecursion P xs → AllByRecursion P (filter p xs)
all_kept P p [] all = tt
all_kept P p (x ∷ xs) all = by (p x) (all_kept P p xs all.1)
  where
    by : (b : Bool) → AllByRecursion P (filter p xs) → AllByRecursion P (cond b (x ∷ filter p xs) (filter p xs))
    by true rest = (all.0, rest)
    by false rest = rest

pub differ_kept : {X Y : Type 0} (key : X → Y) (p : X → Bool) (xs : List X) → DifferBy key xs → DifferBy key (filter p xs)
differ_kept key p [] d = tt
differ_kept key p (x ∷ xs) d = by (p x) (differ_kept key p xs d.1)
  where
    by : (b : Bool) → DifferBy key (filter p xs) → DifferBy key (cond b (x ∷ filter p xs) (filter p xs))
    by true rest = (all_kept (λ y. key x ≢ key y) p xs d.0, rest)
    by false rest = rest

all_mapped : {X Z : Type 0} (f : X → Z) (P : Z → Type 0) (xs : List X) → AllByRecursion (λ x. P (f x)) xs → AllByRecursion P (map f xs)
all_mapped f P [] all = tt
all_mapped f P (x ∷ xs) all = (all.0, all_mapped f P xs all.1)

pub differ_mapped : {X Y Z : Type 0} (f : X → Z) (key : Z → Y) (xs : List X) → DifferBy (λ x. key (f x)) xs → DifferBy key (map f xs)
differ_mapped f key [] d = tt
differ_mapped f key (x ∷ xs) d = (all_mapped f (λ z. key (f x) ≢ key z) xs d.0, differ_mapped f key xs d.1)

-- items that differ by one key differ by another that tells it
pub differ_also : {X Y Z : Type 0} (key : X → Y) (other : X → Z) (P : X → Type 0) → ((a b : X) → P a → P b → other a ≡ other b → key a ≡ key b) → (xs : List X) → AllByRecursion P xs → DifferBy key xs → DifferBy other xs
differ_also key other P tells [] all d = tt
differ_also {X} key other P tells (x ∷ xs) all d = (each xs all.1 d.0, differ_also key other P tells xs all.1 d.1)
  where
    each : (ys : List X) → AllByRecursion P ys → AllByRecursion (λ y. key x ≢ key y) ys → AllByRecursion (λ y. other x ≢ other y) ys
    each [] some apart = tt
    each (y ∷ ys) some apart = (λ same. apart.0 (tells x y all.0 some.0 same), each ys some.1 apart.1)

-- ---- what holds of all items of a list that is sorted

module _ {X : Type 0} (cmp : X → X → Ordering) where
  pub all_insert : (P : X → Type 0) (x : X) (ys : List X) → P x → AllByRecursion P ys → AllByRecursion P (insert_by cmp x ys)
  all_insert P x [] here all = (here, tt)
  all_insert P x (y ∷ ys) here all = by (cmp x y) (all_insert P x ys here all.1)
    where
      by : (o : Ordering) → AllByRecursion P (insert_by cmp x ys) → AllByRecursion P (match_ordering o (x ∷ y ∷ ys) (x ∷ y ∷ ys) (y ∷ insert_by cmp x ys))
      by Less rest = (here, all)
      by Equal rest = (here, all)
      by Greater rest = (all.0, rest)

  pub all_sorted : (P : X → Type 0) (xs : List X) → AllByRecursion P xs → AllByRecursion P (sort_by cmp xs)
  all_sorted P [] all = tt
  all_sorted P (x ∷ xs) all = all_insert P x (sort_by cmp xs) all.0 (all_sorted P xs all.1)

module _ {X Y : Type 0} (key : X → Y) (cmp : X → X → Ordering) where
  pub differ_insert : (x : X) (ys : List X) → AllByRecursion (λ y. key x ≢ key y) ys → DifferBy key ys → DifferBy key (insert_by cmp x ys)
  differ_insert x [] apart d = (tt, tt)
  differ_insert x (y ∷ ys) apart d = by (cmp x y) (differ_insert x ys apart.1 d.1)
    where
      by : (o : Ordering) → DifferBy key (insert_by cmp x ys) → DifferBy key (match_ordering o (x ∷ y ∷ ys) (x ∷ y ∷ ys) (y ∷ insert_by cmp x ys))
      by Less rest = (apart, d)
      by Equal rest = (apart, d)
      by Greater rest = (all_insert cmp (λ z. key y ≢ key z) x ys (λ same. apart.0 (sym same)) d.0, rest)

  pub differ_sorted : (xs : List X) → DifferBy key xs → DifferBy key (sort_by cmp xs)
  differ_sorted [] d = tt
  differ_sorted (x ∷ xs) d = differ_insert x (sort_by cmp xs) (all_sorted cmp (λ y. key x ≢ key y) xs d.0) (differ_sorted xs d.1)

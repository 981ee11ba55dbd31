-- Members of lists: one that passes, those of one list after another, and members as std says it.
use Rattle.std.proofs.Common.{◌≡◌, ◌⊎◌, Bool, true, false, not, ◌||◌, List, [], ◌∷◌, ◌++◌, Some, refl, ap, ◌∙◌, inl, inr}
use Rattle.std.specs.List.{Contains, filter, list_any}
use Rattle.std.proofs.lemmas.Bool.{false≢true}
use Rattle.std.proofs.lemmas.Option.{slice_get-get_or, slice_get_within, get_or_from_slice_get}
use Rattle.mt_stamp.proofs.Members.{IsMember, member_at, member_stands}

module _ {X : Type 0} where
  -- ---- one that passes a test

  pub any_member : (p : X → Bool) (xs : List X) → list_any p xs ≡ true → (x : X) × (IsMember x xs × (p x ≡ true))
  any_member p [] found = absurd (false≢true found)
  any_member p (x ∷ xs) found = by (p x) refl found (any_member p xs)
    where
      by : (b : Bool) → p x ≡ b → b || list_any p xs ≡ true → (list_any p xs ≡ true → (y : X) × (IsMember y xs × (p y ≡ true))) → (y : X) × (IsMember y (x ∷ xs) × (p y ≡ true))
      by true is h later = (x, (inl refl, is))
      by false is h later = let rest = later h in (rest.0, (inr rest.1.0, rest.1.1))

  pub member_any : (p : X → Bool) (xs : List X) (x : X) → IsMember x xs → p x ≡ true → list_any p xs ≡ true
  member_any p [] x m passes = absurd m
  member_any p (y ∷ xs) x (inl here) passes = ap (λ (b : Bool). b || list_any p xs) (ap p here ∙ passes)
  member_any p (y ∷ xs) x (inr later) passes = by (p y) (member_any p xs x later passes)
    where
      by : (b : Bool) → list_any p xs ≡ true → b || list_any p xs ≡ true
      by true h = refl
      by false h = h

  -- where all pass, none is left of those that do not
  pub none_fails : (p : X → Bool) (xs : List X) → ((x : X) → IsMember x xs → p x ≡ true) → filter (λ x. not (p x)) xs ≡ []
  none_fails p [] all = refl
  none_fails p (x ∷ xs) all = rw (all x (inl refl)) (none_fails p xs (λ y m. all y (inr m)))

  -- ---- one list after another

  pub member_left : (xs ys : List X) (x : X) → IsMember x xs → IsMember x (xs ++ ys)
  member_left [] ys x m = absurd m
  member_left (y ∷ xs) ys x (inl same) = inl same
  member_left (y ∷ xs) ys x (inr later) = inr (member_left xs ys x later)

  pub member_right : (xs ys : List X) (x : X) → IsMember x ys → IsMember x (xs ++ ys)
  member_right [] ys x m = m
  member_right (y ∷ xs) ys x m = inr (member_right xs ys x m)

  pub member_of_either : (xs ys : List X) (x : X) → IsMember x (xs ++ ys) → IsMember x xs ⊎ IsMember x ys
  member_of_either [] ys x m = inr m
  member_of_either (y ∷ xs) ys x (inl same) = inl (inl same)
  member_of_either (y ∷ xs) ys x (inr later) = by (member_of_either xs ys x later)
    where
      by : IsMember x xs ⊎ IsMember x ys → IsMember x (y ∷ xs) ⊎ IsMember x ys
      by (inl m) = inl (inr m)
      by (inr m) = inr m

  -- ---- as std says it

  pub is_member : (xs : List X) (x : X) → Contains xs x → IsMember x xs
  is_member xs x c = member_at xs c.0 x (slice_get-get_or xs c.0 x c.1 ∙ ap Some c.2)

  pub is_contained : (xs : List X) (x : X) → IsMember x xs → Contains xs x
  is_contained xs x m = let s = member_stands xs x m in (s.place, slice_get_within xs s.place x s.at, get_or_from_slice_get xs s.place x x s.at)

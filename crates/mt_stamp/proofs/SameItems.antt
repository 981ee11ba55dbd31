-- Lists with the same items, as what is counted of them tells.
use Rattle.std.proofs.Common.{◌≡◌, ℕ, zero, suc, ◌+◌, Bool, true, false, cond, List, [], ◌∷◌, ◌||◌, Option, Some, None, length, map, refl, sym, ap, ◌∙◌, subst, arith, inl, inr}
use Rattle.std.specs.Prelude.{slice_get}
use Rattle.std.specs.List.{AllByRecursion, filter, filter_map, cons_option, flat_map, list_any, sum_by}
use Rattle.std.proofs.lemmas.Option.{same_Some, none-some}
use Rattle.std.proofs.lemmas.List.Sums.{sum_by-cons, sum_by-append}
use Rattle.mt_stamp.proofs.Members.{IsMember}

-- whatever is counted of each item adds up to the same
abbrev pub SameItems : {X : Type 0} → List X → List X → Type 0
SameItems {X} xs ys = (f : X → ℕ) → sum_by f xs ≡ sum_by f ys

added_zero : (n : ℕ) → n ≡ 0 + n
added_zero n = omega arith

one_more : (n : ℕ) → 1 + n ≡ suc n
one_more n = omega arith

sum_filter : {X : Type 0} (f : X → ℕ) (p : X → Bool) (xs : List X) → sum_by f (filter p xs) ≡ sum_by (λ x. cond (p x) (f x) 0) xs
sum_filter f p [] = refl
sum_filter f p (x ∷ xs) = by (p x) (sum_filter f p xs) ∙ sym (sum_by-cons (λ y. cond (p y) (f y) 0) x xs)
  where
    by : (b : Bool) → sum_by f (filter p xs) ≡ sum_by (λ y. cond (p y) (f y) 0) xs → sum_by f (cond b (x ∷ filter p xs) (filter p xs)) ≡ cond b (f x) 0 + sum_by (λ y. cond (p y) (f y) 0) xs
    by true rest = sum_by-cons f x (filter p xs) ∙ ap (λ (n : ℕ). f x + n) rest
    by false rest = rest ∙ added_zero _

sum_map : {X Y : Type 0} (f : Y → ℕ) (g : X → Y) (xs : List X) → sum_by f (map g xs) ≡ sum_by (λ x. f (g x)) xs
sum_map f g [] = refl
sum_map f g (x ∷ xs) = sum_by-cons f (g x) (map g xs) ∙ ap (λ (n : ℕ). f (g x) + n) (sum_map f g xs) ∙ sym (sum_by-cons (λ y. f (g y)) x xs)

-- a value's number, where there is one
abbrev of_some : {Y : Type 0} → (Y → ℕ) → Option Y → ℕ
of_some f None = 0
of_some f (Some y) = f y

sum_filter_map : {X Y : Type 0} (f : Y → ℕ) (h : X → Option Y) (xs : List X) → sum_by f (filter_map h xs) ≡ sum_by (λ x. of_some f (h x)) xs
sum_filter_map f h [] = refl
sum_filter_map {X} {Y} f h (x ∷ xs) = by (h x) (sum_filter_map f h xs) ∙ sym (sum_by-cons (λ y. of_some f (h y)) x xs)
  where
    by : (o : Option Y) → sum_by f (filter_map h xs) ≡ sum_by (λ y. of_some f (h y)) xs → sum_by f (cons_option o (filter_map h xs)) ≡ of_some f o + sum_by (λ y. of_some f (h y)) xs
    by None rest = rest ∙ added_zero _
    by (Some y) rest = sum_by-cons f y (filter_map h xs) ∙ ap (λ (n : ℕ). f y + n) rest

sum_flat_map : {X Y : Type 0} (f : Y → ℕ) (g : X → List Y) (xs : List X) → sum_by f (flat_map g xs) ≡ sum_by (λ x. sum_by f (g x)) xs
sum_flat_map f g [] = refl
sum_flat_map f g (x ∷ xs) = sum_by-append f (g x) (flat_map g xs) ∙ ap (λ (n : ℕ). sum_by f (g x) + n) (sum_flat_map f g xs) ∙ sym (sum_by-cons (λ y. sum_by f (g y)) x xs)

length_sum : {X : Type 0} (xs : List X) → length xs ≡ sum_by (λ x. 1) xs
length_sum [] = refl
length_sum (x ∷ xs) = omega (arith, length_sum xs, sum_by-cons (λ y. 1) x xs)

abbrev positive : ℕ → Bool
positive zero = false
positive (suc n) = true

any_sum : {X : Type 0} (p : X → Bool) (xs : List X) → list_any p xs ≡ positive (sum_by (λ x. cond (p x) 1 0) xs)
any_sum p [] = refl
any_sum p (x ∷ xs) = by (p x) (any_sum p xs) ∙ ap positive (sym (sum_by-cons (λ y. cond (p y) 1 0) x xs))
  where
    by : (b : Bool) → list_any p xs ≡ positive (sum_by (λ y. cond (p y) 1 0) xs) → (b || list_any p xs) ≡ positive (cond b 1 0 + sum_by (λ y. cond (p y) 1 0) xs)
    by true rest = ap positive (sym (one_more _))
    by false rest = rest ∙ ap positive (added_zero _)

-- what is made of the same items
module _ {X : Type 0} (xs ys : List X) (same : SameItems xs ys) where
  pub same_filter : (p : X → Bool) → SameItems (filter p xs) (filter p ys)
  same_filter p f = sum_filter f p xs ∙ same (λ x. cond (p x) (f x) 0) ∙ sym (sum_filter f p ys)

  pub same_map : {Y : Type 0} (g : X → Y) → SameItems (map g xs) (map g ys)
  same_map g f = sum_map f g xs ∙ same (λ x. f (g x)) ∙ sym (sum_map f g ys)

  pub same_filter_map : {Y : Type 0} (h : X → Option Y) → SameItems (filter_map h xs) (filter_map h ys)
  same_filter_map h f = sum_filter_map f h xs ∙ same (λ x. of_some f (h x)) ∙ sym (sum_filter_map f h ys)

  pub same_flat_map : {Y : Type 0} (g : X → List Y) → SameItems (flat_map g xs) (flat_map g ys)
  same_flat_map g f = sum_flat_map f g xs ∙ same (λ x. sum_by f (g x)) ∙ sym (sum_flat_map f g ys)

  pub same_length : length xs ≡ length ys
  same_length = length_sum xs ∙ same (λ x. 1) ∙ sym (length_sum ys)

  pub same_any : (p : X → Bool) → list_any p xs ≡ list_any p ys
  same_any p = any_sum p xs ∙ ap positive (same (λ x. cond (p x) 1 0)) ∙ sym (any_sum p ys)

-- ---- items that are all of a kind

-- those that pass, and do
pub all_passing : {X : Type 0} (P : X → Type 0) (p : X → Bool) (xs : List X) → AllByRecursion P xs → AllByRecursion (λ x. P x × (p x ≡ true)) (filter p xs)
all_passing P p [] all = tt
all_passing P p (x ∷ xs) all = by (p x) refl (all_passing P p xs all.1)
  where
    by : (b : Bool) → p x ≡ b → AllByRecursion (λ y. P y × (p y ≡ true)) (filter p xs) → AllByRecursion (λ y. P y × (p y ≡ true)) (cond b (x ∷ filter p xs) (filter p xs))
    by true is rest = ((all.0, is), rest)
    by false is rest = rest

pub all_map : {X Y : Type 0} (P : X → Type 0) (Q : Y → Type 0) (g : X → Y) → ((x : X) → P x → Q (g x)) → (xs : List X) → AllByRecursion P xs → AllByRecursion Q (map g xs)
all_map P Q g each [] all = tt
all_map P Q g each (x ∷ xs) all = (each x all.0, all_map P Q g each xs all.1)

-- what a listed item gives
abbrev pub GivenBy : {X Y : Type 0} → (X → Type 0) → (X → Option Y) → Y → Type 0
GivenBy {X} P h y = (x : X) × P x × (h x ≡ Some y)

pub all_filter_map : {X Y : Type 0} (P : X → Type 0) (h : X → Option Y) (xs : List X) → AllByRecursion P xs → AllByRecursion (GivenBy P h) (filter_map h xs)
all_filter_map P h [] all = tt
all_filter_map {X} {Y} P h (x ∷ xs) all = by (h x) refl (all_filter_map P h xs all.1)
  where
    by : (o : Option Y) → h x ≡ o → AllByRecursion (GivenBy P h) (filter_map h xs) → AllByRecursion (GivenBy P h) (cons_option o (filter_map h xs))
    by None is rest = rest
    by (Some y) is rest = ((x, all.0, is), rest)

pub all_here : {X : Type 0} (P : X → Type 0) (xs : List X) → AllByRecursion P xs → (k : ℕ) (x : X) → slice_get xs k ≡ Some x → P x
all_here P [] all k x at = absurd (none-some x at)
all_here P (y ∷ xs) all zero x at = subst P (same_Some y x at) all.0
all_here P (y ∷ xs) all (suc k) x at = all_here P xs all.1 k x at

-- where a member gives a value, there is one
pub member_gives : {X Y : Type 0} (h : X → Option Y) (xs : List X) (x : X) (y : Y) → IsMember x xs → h x ≡ Some y → filter_map h xs ≡ [] → ⊥
member_gives h [] x y m is none = m
member_gives {X} {Y} h (z ∷ xs) x y (inl here) is none = by (h z) (ap h here ∙ is) none
  where
    by : (o : Option Y) → o ≡ Some y → cons_option o (filter_map h xs) ≡ [] → ⊥
    by None e n = none-some y e
    by (Some w) e n = cc n
member_gives {X} {Y} h (z ∷ xs) x y (inr later) is none = by (h z) none (member_gives h xs x y later is)
  where
    by : (o : Option Y) → cons_option o (filter_map h xs) ≡ [] → (filter_map h xs ≡ [] → ⊥) → ⊥
    by None n rest = rest n
    by (Some w) n rest = cc n

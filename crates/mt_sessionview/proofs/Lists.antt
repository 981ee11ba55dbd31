-- Members of lists, and what lists give.
use Rattle.std.proofs.Common.{◌≡◌, ◌≢◌, ℕ, ◌+◌, ◌<◌, ◌≤◌, Bool, true, false, cond, List, [], ◌∷◌, ◌++◌, ◌||◌, length, get_or, take, drop, append_assoc, Option, Some, None, map, refl, sym, ap, ◌∙◌, subst, inl, inr, true≢false}
use Rattle.std.specs.List.{AllByRecursion, filter, filter_map, cons_option, list_any, list_all}
use Rattle.std.specs.declared.cmp.Ordering.{Ordering}
use Rattle.std.specs.declared.cmp.Ordering.TheVariants.{Less}
use Rattle.std.proofs.lemmas.Bool.{false_from_ne_true}
use Rattle.std.proofs.lemmas.List.{append-nil, drop_all, map-append, take_more}
use Rattle.std.proofs.lemmas.List.Elements.{All-from_recursion, recursion_from_All, filter_map-append}
use Rattle.std.specs.List.Sorted.{IsPermutation}
use Rattle.std.proofs.lemmas.List.Sorted.{All-permutation}
use Rattle.mt_stamp.specs.Sorting.{DifferBy, RisesStrictly}
use Rattle.mt_stamp.proofs.Differing.{all_kept}
use Rattle.mt_stamp.proofs.Members.{IsMember}
use Rattle.mt_stamp.proofs.SameItems.{GivenBy, all_map, all_filter_map}
use Rattle.std.proofs.Math.Bool.{or-true}
use Rattle.mt_op.proofs.Needs.{and_first, and_second}

pub all_members : {X : Type 0} (P : X → Type 0) (xs : List X) → ((x : X) → IsMember x xs → P x) → AllByRecursion P xs
all_members P [] each = tt
all_members P (x ∷ xs) each = (each x (inl refl), all_members P xs (λ y m. each y (inr m)))

pub member_all : {X : Type 0} (P : X → Type 0) (xs : List X) (x : X) → AllByRecursion P xs → IsMember x xs → P x
member_all P [] x all m = absurd m
member_all P (y ∷ xs) x all (inl same) = subst P same all.0
member_all P (y ∷ xs) x all (inr later) = member_all P xs x all.1 later

pub all_also : {X : Type 0} (P Q : X → Type 0) → ((x : X) → P x → Q x) → (xs : List X) → AllByRecursion P xs → AllByRecursion Q xs
all_also P Q also [] all = tt
all_also P Q also (x ∷ xs) all = (also x all.0, all_also P Q also xs all.1)

pub members_moved : {X : Type 0} (xs ys : List X) → IsPermutation xs ys → (v : X) → IsMember v ys → IsMember v xs
members_moved {X} xs ys moved v m =
    member_all (λ w. IsMember w xs) ys v (recursion_from_All (λ w. IsMember w xs) ys (All-permutation (λ w. IsMember w xs) xs ys moved (All-from_recursion (λ w. IsMember w xs) xs (all_members (λ w. IsMember w xs) xs (λ w n. n))))) m

pub all_true : {X : Type 0} (f : X → Bool) (xs : List X) → list_all f xs ≡ true → AllByRecursion (λ x. f x ≡ true) xs
all_true f [] all = tt
all_true f (x ∷ xs) all = (and_first _ _ all, all_true f xs (and_second _ _ all))

-- where a member passes, one does
pub any_of : {X : Type 0} (p : X → Bool) (xs : List X) (x : X) → IsMember x xs → p x ≡ true → list_any p xs ≡ true
any_of p [] x m passes = absurd m
any_of p (y ∷ xs) x (inl same) passes = ap (λ (b : Bool). b || list_any p xs) (ap p same ∙ passes)
any_of p (y ∷ xs) x (inr later) passes = rw (any_of p xs x later passes) (or-true (p y))

pub none_passes : {X : Type 0} (p : X → Bool) (xs : List X) → list_any p xs ≡ false → AllByRecursion (λ x. p x ≡ false) xs
none_passes p xs none = all_members (λ x. p x ≡ false) xs (λ x m. false_from_ne_true (p x) (λ passes. true≢false (sym (any_of p xs x m passes) ∙ none)))

-- a member that passes
pub record IsFound {X : Type 0} (p : X → Bool) (xs : List X) : Type 0 where
  pub item : X
  pub member : IsMember item xs
  pub passes : p item ≡ true

pub any_member : {X : Type 0} (p : X → Bool) (xs : List X) → list_any p xs ≡ true → IsFound p xs
any_member p [] any = absurd (true≢false (sym any))
any_member {X} p (x ∷ xs) any = by (p x) refl any (any_member p xs)
  where
    by : (b : Bool) → p x ≡ b → (b || list_any p xs) ≡ true → (list_any p xs ≡ true → IsFound p xs) → IsFound p (x ∷ xs)
    by true is h rest = record { item = x; member = inl refl; passes = is }
    by false is h rest = let f = rest h in record { item = f.item; member = inr f.member; passes = f.passes }

-- a member that gives something
pub given_by : {X Y : Type 0} (h : X → Option Y) (xs : List X) (y : Y) → IsMember y (filter_map h xs) → GivenBy (λ x. IsMember x xs) h y
given_by h xs y m = member_all (GivenBy (λ x. IsMember x xs) h) (filter_map h xs) y (all_filter_map (λ x. IsMember x xs) h xs (all_members (λ x. IsMember x xs) xs (λ x n. n))) m

pub member_given : {X Y : Type 0} (h : X → Option Y) (xs : List X) (x : X) (y : Y) → IsMember x xs → h x ≡ Some y → IsMember y (filter_map h xs)
member_given h [] x y m is = absurd m
member_given {X} {Y} h (z ∷ xs) x y (inl same) is = subst (λ (o : Option Y). IsMember y (cons_option o (filter_map h xs))) (sym (ap h same ∙ is)) (inl refl)
member_given {X} {Y} h (z ∷ xs) x y (inr later) is = by (h z) (member_given h xs x y later is)
  where
    by : (o : Option Y) → IsMember y (filter_map h xs) → IsMember y (cons_option o (filter_map h xs))
    by None m = m
    by (Some w) m = inr m

pub member_map : {X Y : Type 0} (f : X → Y) (xs : List X) (x : X) → IsMember x xs → IsMember (f x) (map f xs)
member_map f [] x m = absurd m
member_map f (y ∷ xs) x (inl same) = inl (ap f same)
member_map f (y ∷ xs) x (inr later) = inr (member_map f xs x later)

pub member_of_map : {X Y : Type 0} (f : X → Y) (xs : List X) (y : Y) → IsMember y (map f xs) → (x : X) × IsMember x xs × (f x ≡ y)
member_of_map f [] y m = absurd m
member_of_map f (x ∷ xs) y (inl same) = (x, inl refl, same)
member_of_map f (x ∷ xs) y (inr later) = let r = member_of_map f xs y later in (r.0, inr r.1, r.2)

-- members of one key are one
pub one_of : {X Y : Type 0} (key : X → Y) (xs : List X) (a b : X) → DifferBy key xs → IsMember a xs → IsMember b xs → key a ≡ key b → a ≡ b
one_of key [] a b differ in_a in_b same = absurd in_a
one_of key (x ∷ xs) a b differ (inl here) (inl there) same = sym here ∙ there
one_of key (x ∷ xs) a b differ (inl here) (inr later) same = absurd (member_all (λ y. key x ≢ key y) xs b differ.0 later (ap key here ∙ same))
one_of key (x ∷ xs) a b differ (inr later) (inl here) same = absurd (member_all (λ y. key x ≢ key y) xs a differ.0 later (ap key here ∙ sym same))
one_of key (x ∷ xs) a b differ (inr in_a) (inr in_b) same = one_of key xs a b differ.1 in_a in_b same

-- what rises gives what rises, where a key tells who gave it
pub rises_given : {X Y Z : Type 0} (cmp : Z → Z → Ordering) (h : X → Option Y) (key : X → Z) (name : Y → Z) → ((x : X) (y : Y) → h x ≡ Some y → name y ≡ key x) → (xs : List X) → RisesStrictly (λ a b. cmp (key a) (key b)) xs → RisesStrictly (λ a b. cmp (name a) (name b)) (filter_map h xs)
rises_given cmp h key name tells [] rises = tt
rises_given {X} {Y} {Z} cmp h key name tells (x ∷ xs) rises = by (h x) refl (rises_given cmp h key name tells xs rises.1)
  where
    by : (o : Option Y) → h x ≡ o → RisesStrictly (λ a b. cmp (name a) (name b)) (filter_map h xs) → RisesStrictly (λ a b. cmp (name a) (name b)) (cons_option o (filter_map h xs))
    by None is rest = rest
    by (Some y) is rest = (
      all_members (λ z. cmp (name y) (name z) ≡ Less) (filter_map h xs) (λ z m.
          let g = given_by h xs z m in
          (λ i. cmp (tells x y is i) (tells g.0 z g.2 i)) ∙ member_all (λ w. cmp (key x) (key w) ≡ Less) xs g.0 rises.0 g.1),
      rest,
    )

pub rises_mapped : {X Y : Type 0} (cmp : Y → Y → Ordering) (f : X → Y) (xs : List X) → RisesStrictly (λ a b. cmp (f a) (f b)) xs → RisesStrictly cmp (map f xs)
rises_mapped cmp f [] rises = tt
rises_mapped cmp f (x ∷ xs) rises = (all_map (λ y. cmp (f x) (f y) ≡ Less) (λ z. cmp (f x) z ≡ Less) f (λ y less. less) xs rises.0, rises_mapped cmp f xs rises.1)

pub rises_unmapped : {X Y : Type 0} (cmp : Y → Y → Ordering) (f : X → Y) (xs : List X) → RisesStrictly cmp (map f xs) → RisesStrictly (λ a b. cmp (f a) (f b)) xs
rises_unmapped cmp f [] rises = tt
rises_unmapped cmp f (x ∷ xs) rises = (all_members (λ y. cmp (f x) (f y) ≡ Less) xs (λ y m. member_all (λ z. cmp (f x) z ≡ Less) (map f xs) (f y) rises.0 (member_map f xs y m)), rises_unmapped cmp f xs rises.1)

pub item_of : {X : Type 0} (P : X → Type 0) (xs : List X) (i : ℕ) (x : X) → i < length xs → x ≡ get_or xs i x → AllByRecursion P xs → P x
item_of P xs i x inside is all = subst P (sym is) (All-from_recursion P xs all i x inside)

-- a step of a loop that reads items: what is read of one more, where it gives something, and where it gives nothing
module _ {X Y Z : Type 0} (f : Y → Option Z) (v : X → Y) (xs : List X) (i : ℕ) (x : X) (made : List Z) (inside : i < length xs) (is : x ≡ get_or xs i x) (so_far : made ≡ filter_map f (map v (take i xs))) where
  more_read : filter_map f (map v (take (i + 1) xs)) ≡ made ++ cons_option (f (v x)) []
  more_read = rw (take_more xs i x inside, ← is, map-append, filter_map-append, ← so_far) refl

  pub one_read : (found : Z) (grown : List Z) → f (v x) ≡ Some found → grown ≡ made ++ found ∷ [] → grown ≡ filter_map f (map v (take (i + 1) xs))
  one_read found grown gives grown_is = grown_is ∙ sym (more_read ∙ ap (λ (o : Option Z). made ++ cons_option o []) gives)

  pub if_read : (b : Bool) (found : Z) (grown : List Z) → f (v x) ≡ cond b (Some found) None → grown ≡ made ++ cond b (found ∷ []) [] → grown ≡ filter_map f (map v (take (i + 1) xs))
  if_read true found grown gives grown_is = one_read found grown gives grown_is
  if_read false found grown gives grown_is = grown_is ∙ sym (more_read ∙ ap (λ (o : Option Z). made ++ cons_option o []) gives)

  pub none_read : (grown : List Z) → f (v x) ≡ None → grown ≡ made → grown ≡ filter_map f (map v (take (i + 1) xs))
  none_read grown gives grown_is = grown_is ∙ sym (more_read ∙ ap (λ (o : Option Z). made ++ cons_option o []) gives ∙ append-nil made)

pub rises_kept : {X : Type 0} (cmp : X → X → Ordering) (p : X → Bool) (xs : List X) → RisesStrictly cmp xs → RisesStrictly cmp (filter p xs)
rises_kept cmp p [] rises = tt
rises_kept {X} cmp p (x ∷ xs) rises = by (p x) (rises_kept cmp p xs rises.1)
  where
    by : (b : Bool) → RisesStrictly cmp (filter p xs) → RisesStrictly cmp (cond b (x ∷ filter p xs) (filter p xs))
    by true rest = (all_kept (λ y. cmp x y ≡ Less) p xs rises.0, rest)
    by false rest = rest

-- what differs by a key gives what differs by it
pub differ_given : {X Y Z : Type 0} (h : X → Option Y) (key : X → Z) (name : Y → Z) → ((x : X) (y : Y) → h x ≡ Some y → name y ≡ key x) → (xs : List X) → DifferBy key xs → DifferBy name (filter_map h xs)
differ_given h key name tells [] d = tt
differ_given {X} {Y} {Z} h key name tells (x ∷ xs) d = by (h x) refl (differ_given h key name tells xs d.1)
  where
    by : (o : Option Y) → h x ≡ o → DifferBy name (filter_map h xs) → DifferBy name (cons_option o (filter_map h xs))
    by None is rest = rest
    by (Some y) is rest = (
      all_members (λ z. name y ≢ name z) (filter_map h xs) (λ z m same.
          let g = given_by h xs z m in
          member_all (λ w. key x ≢ key w) xs g.0 d.0 g.1 (sym (tells x y is) ∙ same ∙ tells g.0 z g.2)),
      rest,
    )

-- ---- loops that put what they make behind what they have made: at a step, and at the end

pub more_made : {Y : Type 0} (made grown new before rest whole : List Y) → made ++ before ≡ whole → before ≡ new ++ rest → grown ≡ made ++ new → grown ++ rest ≡ whole
more_made {Y} made grown new before rest whole so_far split is =
    ap (λ (l : List Y). l ++ rest) is ∙ append_assoc made new rest ∙ ap (λ (l : List Y). made ++ l) (sym split) ∙ so_far

pub all_made : {X Y : Type 0} (F : List X → List Y) (xs : List X) (n : ℕ) (made whole : List Y) → F [] ≡ [] → length xs ≤ n → made ++ F (drop n xs) ≡ whole → made ≡ whole
all_made {X} {Y} F xs n made whole none past so_far = sym (append-nil made) ∙ ap (λ (l : List Y). made ++ l) (sym (ap F (drop_all n xs past) ∙ none)) ∙ so_far

-- Lists of operations in which no stamp stands twice, as what is counted of them tells.
use Rattle.std.proofs.Common.{◌≡◌, ◌≢◌, ℕ, ◌+◌, ◌≤◌, Bool, true, false, cond, ◌||◌, List, [], ◌∷◌, ◌++◌, refl, sym, ap, ◌∙◌, arith}
use Rattle.std.specs.List.{AllByRecursion, list_any, sum_by}
use Rattle.std.proofs.lemmas.List.Sums.{sum_by-cons, sum_by-append}
use Rattle.mt_stamp.specs.Moment.{Moment, stamp_eq}
use Rattle.mt_stamp.specs.Sorting.{DifferBy}
use Rattle.mt_stamp.proofs.Order.{stamp_eq-true, stamp_eq-itself}
use Rattle.mt_op.specs.Operation.{Operation}
use Rattle.mt_op.specs.ByStamp.{stamp_of}
use Rattle.mt_op.specs.Presence.{is_listed}
use Rattle.mt_items.specs.Noting.{is_noted}
use Rattle.mt_sessionview.specs.Session.{stamps_of}
use Rattle.mt_sessionview.proofs.Items.{stamp_eq_same}
use Rattle.mt_sessionview.proofs.Lists.{all_members, any_of}
use Rattle.mt_replica.specs.Holding.{stamp_count, HaveOwnStamps}
use Rattle.mt_replica.proofs.Bridging.{not_true}

abbrev one_if : Bool → ℕ
one_if b = cond b 1 0

count_cons : (s : Moment) (x : Operation) (xs : List Operation) → stamp_count s (x ∷ xs) ≡ one_if (stamp_eq s x.stamp) + stamp_count s xs
count_cons s x xs = sum_by-cons (λ (o : Operation). cond (stamp_eq s o.stamp) 1 0) x xs

pub count_append : (s : Moment) (xs ys : List Operation) → stamp_count s (xs ++ ys) ≡ stamp_count s xs + stamp_count s ys
count_append s xs ys = sum_by-append (λ (o : Operation). cond (stamp_eq s o.stamp) 1 0) xs ys

-- its own stamp is one more
pub count_own : (x : Operation) (xs : List Operation) → stamp_count x.stamp (x ∷ xs) ≡ 1 + stamp_count x.stamp xs
count_own x xs = count_cons x.stamp x xs ∙ ap (λ (b : Bool). one_if b + stamp_count x.stamp xs) (stamp_eq-itself x.stamp)

pub count_noted : (s : Moment) (xs : List Operation) → is_noted xs s ≡ true → 1 ≤ stamp_count s xs
count_noted s [] there = absurd cc
count_noted s (x ∷ xs) there = by (stamp_eq s x.stamp) refl there (count_noted s xs)
  where
    by : (b : Bool) → stamp_eq s x.stamp ≡ b → (b || is_noted xs s) ≡ true → (is_noted xs s ≡ true → 1 ≤ stamp_count s xs) → 1 ≤ stamp_count s (x ∷ xs)
    by true is found rest = let split = count_cons s x xs ∙ ap (λ (b : Bool). one_if b + stamp_count s xs) is in omega (arith, split)
    by false is found rest = let split = count_cons s x xs ∙ ap (λ (b : Bool). one_if b + stamp_count s xs) is in let more = rest found in omega (arith, split, more)

pub none_noted : (s : Moment) (xs : List Operation) → stamp_count s xs ≤ 0 → is_noted xs s ≡ false
none_noted s xs none = not_true (is_noted xs s) (λ there. let some = count_noted s xs there in omega (arith, none, some))

pub turned : (a b : Moment) → stamp_eq a b ≡ stamp_eq b a
turned a b = by (stamp_eq a b) (stamp_eq b a) (λ e. ap (stamp_eq b) (stamp_eq-true a b e) ∙ stamp_eq-itself b) (λ e. ap (stamp_eq a) (stamp_eq-true b a e) ∙ stamp_eq-itself a)
  where
    by : (p q : Bool) → (p ≡ true → q ≡ true) → (q ≡ true → p ≡ true) → p ≡ q
    by true q to from = sym (to refl)
    by false true to from = from refl
    by false false to from = refl

-- the same, asked the other way round
pub none_known : (s : Moment) (xs : List Operation) → stamp_count s xs ≤ 0 → list_any (λ (t : Operation). stamp_eq t.stamp s) xs ≡ false
none_known s xs none = (λ i. list_any (λ (t : Operation). turned t.stamp s i) xs) ∙ none_noted s xs none

count_others : (x : Operation) (ys : List Operation) → AllByRecursion (λ y. stamp_of x ≢ stamp_of y) ys → (s : Moment) → stamp_eq s x.stamp ≡ true → stamp_count s ys ≤ 0
count_others x [] all s is = omega arith
count_others x (y ∷ ys) all s is =
    let other : stamp_eq s y.stamp ≡ false = not_true (stamp_eq s y.stamp) (λ e. all.0 (sym (stamp_eq-true s x.stamp is) ∙ stamp_eq-true s y.stamp e)) in
    let split = count_cons s y ys ∙ ap (λ (b : Bool). one_if b + stamp_count s ys) other in
    let rest = count_others x ys all.1 s is in
    omega (arith, split, rest)

pub own_stamps : (xs : List Operation) → DifferBy stamp_of xs → HaveOwnStamps xs
own_stamps [] differ s = omega arith
own_stamps (x ∷ xs) differ s = by (stamp_eq s x.stamp) refl (own_stamps xs differ.1 s)
  where
    by : (b : Bool) → stamp_eq s x.stamp ≡ b → stamp_count s xs ≤ 1 → stamp_count s (x ∷ xs) ≤ 1
    by true is rest = let split = count_cons s x xs ∙ ap (λ (b : Bool). one_if b + stamp_count s xs) is in let none = count_others x xs differ.0 s is in omega (arith, split, none)
    by false is rest = let split = count_cons s x xs ∙ ap (λ (b : Bool). one_if b + stamp_count s xs) is in omega (arith, split, rest)

-- a stamp is listed where an operation of it is noted
pub listed_is : (xs : List Operation) (s : Moment) → is_listed (stamps_of xs) s ≡ is_noted xs s
listed_is [] s = refl
listed_is (x ∷ xs) s = ap (λ (b : Bool). stamp_eq s x.stamp || b) (listed_is xs s)

-- operations whose stamps are their own differ by them
pub differ_own : (xs : List Operation) → HaveOwnStamps xs → DifferBy stamp_of xs
differ_own [] own = tt
differ_own (x ∷ xs) own = (
  all_members (λ y. stamp_of x ≢ stamp_of y) xs (λ y m same.
      let there : is_noted xs x.stamp ≡ true = any_of (λ (o : Operation). stamp_eq x.stamp o.stamp) xs y m (stamp_eq_same x.stamp y.stamp same) in
      let some = count_noted x.stamp xs there in
      let once = own x.stamp in
      let one = count_own x xs in
      absurd (omega (arith, some, once, one))),
  differ_own xs (λ s. let all = own s in let split = count_cons s x xs in omega (arith, all, split)),
)

-- of the same operations the stamps are their own too
pub own_as : (xs ys : List Operation) → ((f : Operation → ℕ) → sum_by f xs ≡ sum_by f ys) → DifferBy stamp_of xs → HaveOwnStamps ys
own_as xs ys same differ s = let once = own_stamps xs differ s in let both = same (λ (o : Operation). cond (stamp_eq s o.stamp) 1 0) in omega (arith, once, both)

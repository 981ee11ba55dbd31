-- Lists with the same members have the same ready items.
use Rattle.std.proofs.Common.{◌≡◌, ℕ, zero, suc, Bool, true, false, not, cond, ◌||◌, ◌&&◌, List, [], ◌∷◌, ◌++◌, filter, refl, sym, ap, ◌∙◌, true≢false}
use Rattle.std.specs.List.{list_all, list_any}
use Rattle.mt_op.specs.Ready as rule

-- each test that passes somewhere in one list passes somewhere in another: its members are there
abbrev pub IsWithin : {D : Type 0} → List D → List D → Type 0
IsWithin {D} some more = (p : D → Bool) → list_any p some ≡ true → list_any p more ≡ true

pub all_more : {Q : Type 0} (f g : Q → Bool) (ns : List Q) → ((n : Q) → f n ≡ true → g n ≡ true) → list_all f ns ≡ true → list_all g ns ≡ true
all_more f g [] more h = refl
all_more f g (n ∷ ns) more h = both (f n) (list_all f ns) (g n) (list_all g ns) (more n) (all_more f g ns more) h
  where
    both : (a b c d : Bool) → (a ≡ true → c ≡ true) → (b ≡ true → d ≡ true) → (a && b) ≡ true → (c && d) ≡ true
    both true b c d first rest h = rw (first refl) (rest h)
    both false b c d first rest h = absurd (true≢false (sym h))

and_more : (a b c : Bool) → (b ≡ true → c ≡ true) → (a && b) ≡ true → (a && c) ≡ true
and_more true b c more h = more h
and_more false b c more h = h

pub or_left : (a b c : Bool) → (a || (b || c)) ≡ ((a || b) || c)
or_left true b c = refl
or_left false b c = refl

pub or_middle : (a b c : Bool) → (a || (b || c)) ≡ (b || (a || c))
or_middle true true c = refl
or_middle true false c = refl
or_middle false b c = refl

module _ {D : Type 0} where
  -- one that passes both tests
  any_filter : (m r : D → Bool) (xs : List D) → list_any r (filter m xs) ≡ list_any (λ d. m d && r d) xs
  any_filter m r [] = refl
  any_filter m r (x ∷ xs) = by (m x) (any_filter m r xs)
    where
      by : (b : Bool) → list_any r (filter m xs) ≡ list_any (λ d. m d && r d) xs → list_any r (cond b (x ∷ filter m xs) (filter m xs)) ≡ ((b && r x) || list_any (λ d. m d && r d) xs)
      by true rest = ap (λ (c : Bool). r x || c) rest
      by false rest = rest

  any_more : (p q : D → Bool) (xs : List D) → ((d : D) → p d ≡ true → q d ≡ true) → list_any p xs ≡ true → list_any q xs ≡ true
  any_more p q [] more h = h
  any_more p q (x ∷ xs) more h = either (p x) (list_any p xs) (q x) (list_any q xs) (more x) (any_more p q xs more) h
    where
      either : (a b c d : Bool) → (a ≡ true → c ≡ true) → (b ≡ true → d ≡ true) → (a || b) ≡ true → (c || d) ≡ true
      either true b c d first rest h = rw (first refl) refl
      either false b true d first rest h = refl
      either false b false d first rest h = rest h

  pub any_append : (p : D → Bool) (xs ys : List D) → list_any p (xs ++ ys) ≡ (list_any p xs || list_any p ys)
  any_append p [] ys = refl
  any_append p (x ∷ xs) ys = by (p x) (any_append p xs ys)
    where
      by : (b : Bool) → list_any p (xs ++ ys) ≡ (list_any p xs || list_any p ys) → (b || list_any p (xs ++ ys)) ≡ ((b || list_any p xs) || list_any p ys)
      by true rest = refl
      by false rest = rest

  -- what a test keeps, and then the rest
  pub any_parts : (p r : D → Bool) (xs : List D) → list_any p xs ≡ (list_any p (filter r xs) || list_any p (filter (λ d. not (r d)) xs))
  any_parts p r [] = refl
  any_parts p r (x ∷ xs) = by (r x) (p x) (any_parts p r xs)
    where
      by : (b a : Bool) → list_any p xs ≡ (list_any p (filter r xs) || list_any p (filter (λ d. not (r d)) xs))
          → (p x || list_any p xs) ≡ (list_any p (cond b (x ∷ filter r xs) (filter r xs)) || list_any p (cond (not b) (x ∷ filter (λ d. not (r d)) xs) (filter (λ d. not (r d)) xs)))
      by true a rest = ap (λ (c : Bool). p x || c) rest ∙ or_left (p x) (list_any p (filter r xs)) (list_any p (filter (λ d. not (r d)) xs))
      by false a rest = ap (λ (c : Bool). p x || c) rest ∙ or_middle (p x) (list_any p (filter r xs)) (list_any p (filter (λ d. not (r d)) xs))

module _ {D Q : Type 0} (clock : D → ℕ) (needs : D → List Q) (meets : Q → D → Bool) where
  ready_below_within : (n : ℕ) (some more : List D) (t : D) → IsWithin some more → rule.is_ready_below clock needs meets n some t ≡ true → rule.is_ready_below clock needs meets n more t ≡ true
  ready_below_within zero some more t within h = h
  ready_below_within (suc n) some more t within h = all_more _ _ (needs t) (λ need found. each (ready_below_within n some more) need found) h
    where
      each : ((d : D) → IsWithin some more → rule.is_ready_below clock needs meets n some d ≡ true → rule.is_ready_below clock needs meets n more d ≡ true) → (need : Q)
          → list_any (rule.is_ready_below clock needs meets n some) (filter (meets need) some) ≡ true → list_any (rule.is_ready_below clock needs meets n more) (filter (meets need) more) ≡ true
      each deeper need found =
          let both = sym (any_filter (meets need) (rule.is_ready_below clock needs meets n some) some) ∙ found in
          let there = any_more (λ d. meets need d && rule.is_ready_below clock needs meets n some d) (λ d. meets need d && rule.is_ready_below clock needs meets n more d) some (λ d. and_more (meets need d) _ _ (deeper d within)) both in
          any_filter (meets need) (rule.is_ready_below clock needs meets n more) more ∙ within (λ d. meets need d && rule.is_ready_below clock needs meets n more d) there

  pub ready_within : (some more : List D) (t : D) → IsWithin some more → rule.is_ready clock needs meets some t ≡ true → rule.is_ready clock needs meets more t ≡ true
  ready_within some more t within h = ready_below_within (suc (clock t)) some more t within h

  pub ready_same : (one other : List D) (t : D) → IsWithin one other → IsWithin other one → rule.is_ready clock needs meets one t ≡ rule.is_ready clock needs meets other t
  ready_same one other t there back = by (rule.is_ready clock needs meets one t) (rule.is_ready clock needs meets other t) (ready_within one other t there) (ready_within other one t back)
    where
      by : (a b : Bool) → (a ≡ true → b ≡ true) → (b ≡ true → a ≡ true) → a ≡ b
      by true b there back = sym (there refl)
      by false true there back = back refl
      by false false there back = refl

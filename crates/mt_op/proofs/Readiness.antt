-- Ready is the one set that satisfies its rule, where named clocks are smaller.
use Rattle.std.proofs.Common.{◌≡◌, ℕ, zero, suc, ◌+◌, ◌<◌, ◌≤◌, Bool, true, false, List, [], ◌∷◌, refl, sym, ◌∙◌, arith}
use Rattle.std.specs.List.{filter, list_any, list_all, AllByRecursion}
use Rattle.mt_op.specs.Ready.{is_met, is_ready_below, is_ready, NeedsAreOlder, SatisfiesRule, IsTheOnlyReady}

any_step : {D : Type 0} (p r q : D → Bool) (x : D) (s : List D) (b : Bool) → p x ≡ b → (b ≡ true → r x ≡ q x) → list_any r (filter p s) ≡ list_any q (filter p s)
    → list_any r (filter p (x ∷ s)) ≡ list_any q (filter p (x ∷ s))
any_step p r q x s true e h rest = rw e (cc (h refl, rest))
any_step p r q x s false e h rest = rw e rest

-- two tests that agree where a third passes find the same
pub any-filter : {D : Type 0} (p r q : D → Bool) (s : List D) → AllByRecursion (λ e. p e ≡ true → r e ≡ q e) s → list_any r (filter p s) ≡ list_any q (filter p s)
any-filter p r q [] h = refl
any-filter p r q (x ∷ s) h = any_step p r q x s (p x) refl h.0 (any-filter p r q s h.1)

all-same : {Q : Type 0} (f g : Q → Bool) (ns : List Q) → AllByRecursion (λ n. f n ≡ g n) ns → list_all f ns ≡ list_all g ns
all-same f g [] h = refl
all-same f g (n ∷ ns) h = cc (h.0, all-same f g ns h.1)

module _ {D Q : Type 0} (clock : D → ℕ) (needs : D → List Q) (meets : Q → D → Bool) where
  weaker : (r q : D → Bool) (c : ℕ) (need : Q) → ((e : D) → meets need e ≡ true → clock e < c) → (s : List D) → AllByRecursion (λ e. clock e < c → r e ≡ q e) s
      → AllByRecursion (λ e. meets need e ≡ true → r e ≡ q e) s
  weaker r q c need older [] h = tt
  weaker r q c need older (x ∷ s) h = (λ m. h.0 (older x m), weaker r q c need older s h.1)

  met_at : (r q : D → Bool) (c : ℕ) (s : List D) → AllByRecursion (λ e. clock e < c → r e ≡ q e) s
      → (ns : List Q) → AllByRecursion (λ need. (e : D) → meets need e ≡ true → clock e < c) ns
      → AllByRecursion (λ need. list_any r (filter (meets need) s) ≡ list_any q (filter (meets need) s)) ns
  met_at r q c s h [] older = tt
  met_at r q c s h (need ∷ ns) older = (any-filter (meets need) r q s (weaker r q c need older.0 s h), met_at r q c s h ns older.1)

  -- what d needs depends on smaller clocks alone
  pub is_met-same : (r q : D → Bool) (s : List D) (d : D) → NeedsAreOlder clock needs meets d → AllByRecursion (λ e. clock e < clock d → r e ≡ q e) s
      → is_met clock needs meets s r d ≡ is_met clock needs meets s q d
  is_met-same r q s d older h = all-same _ _ (needs d) (met_at r q (clock d) s h (needs d) older)

  -- the rule looks no deeper than the clock
  deep_all : (s : List D) (n m c : ℕ) → ((d : D) → NeedsAreOlder clock needs meets d → clock d < n → clock d < m → is_ready_below clock needs meets n s d ≡ is_ready_below clock needs meets m s d)
      → c ≤ n → c ≤ m → (t : List D) → AllByRecursion (NeedsAreOlder clock needs meets) t
      → AllByRecursion (λ e. clock e < c → is_ready_below clock needs meets n s e ≡ is_ready_below clock needs meets m s e) t
  deep_all s n m c same cn cm [] older = tt
  deep_all s n m c same cn cm (d ∷ t) older = (λ lt. same d older.0 (omega arith) (omega arith), deep_all s n m c same cn cm t older.1)

  deep : (s : List D) → AllByRecursion (NeedsAreOlder clock needs meets) s → (n m : ℕ) (d : D) → NeedsAreOlder clock needs meets d → clock d < n → clock d < m
      → is_ready_below clock needs meets n s d ≡ is_ready_below clock needs meets m s d
  deep s all zero m d older n-deep m-deep = absurd (omega arith)
  deep s all (suc n) zero d older n-deep m-deep = absurd (omega arith)
  deep s all (suc n) (suc m) d older n-deep m-deep =
      is_met-same (is_ready_below clock needs meets n s) (is_ready_below clock needs meets m s) s d older (deep_all s n m (clock d) (deep s all n m) (omega arith) (omega arith) s all)

  to_own : (s : List D) → AllByRecursion (NeedsAreOlder clock needs meets) s → (c : ℕ) → (t : List D) → AllByRecursion (NeedsAreOlder clock needs meets) t
      → AllByRecursion (λ e. clock e < c → is_ready_below clock needs meets c s e ≡ is_ready clock needs meets s e) t
  to_own s all c [] older = tt
  to_own s all c (d ∷ t) older = (λ lt. deep s all c (suc (clock d)) d older.0 lt (omega arith), to_own s all c t older.1)

  -- what is ready satisfies the rule
  pub is_ready-met : (s : List D) → AllByRecursion (NeedsAreOlder clock needs meets) s → (d : D) → NeedsAreOlder clock needs meets d
      → is_ready clock needs meets s d ≡ is_met clock needs meets s (is_ready clock needs meets s) d
  is_ready-met s all d older =
      is_met-same (is_ready_below clock needs meets (clock d) s) (is_ready clock needs meets s) s d older (to_own s all (clock d) s all)

  satisfied : (s : List D) → AllByRecursion (NeedsAreOlder clock needs meets) s → (t : List D) → AllByRecursion (NeedsAreOlder clock needs meets) t
      → AllByRecursion (λ d. is_ready clock needs meets s d ≡ is_met clock needs meets s (is_ready clock needs meets s) d) t
  satisfied s all [] older = tt
  satisfied s all (d ∷ t) older = (is_ready-met s all d older.0, satisfied s all t older.1)

  only_step : (s : List D) → AllByRecursion (NeedsAreOlder clock needs meets) s → (passes : D → Bool) (n : ℕ)
      → AllByRecursion (λ e. clock e < n → passes e ≡ is_ready clock needs meets s e) s
      → (t : List D) → AllByRecursion (NeedsAreOlder clock needs meets) t → AllByRecursion (λ d. passes d ≡ is_met clock needs meets s passes d) t
      → AllByRecursion (λ e. clock e < suc n → passes e ≡ is_ready clock needs meets s e) t
  only_step s all passes n below [] older rule = tt
  only_step s all passes n below (d ∷ t) older rule =
      (λ lt. rule.0 ∙ is_met-same passes (is_ready clock needs meets s) s d older.0 (fewer (clock d) (omega arith) s below) ∙ sym (is_ready-met s all d older.0), only_step s all passes n below t older.1 rule.1)
    where
      fewer : (c : ℕ) → c ≤ n → (u : List D) → AllByRecursion (λ e. clock e < n → passes e ≡ is_ready clock needs meets s e) u → AllByRecursion (λ e. clock e < c → passes e ≡ is_ready clock needs meets s e) u
      fewer c le [] h = tt
      fewer c le (x ∷ u) h = (λ lt. h.0 (omega arith), fewer c le u h.1)

  only_below : (s : List D) → AllByRecursion (NeedsAreOlder clock needs meets) s → (passes : D → Bool) → SatisfiesRule clock needs meets s passes → (n : ℕ)
      → AllByRecursion (λ e. clock e < n → passes e ≡ is_ready clock needs meets s e) s
  only_below s all passes rule zero = none s
    where
      none : (u : List D) → AllByRecursion (λ e. clock e < 0 → passes e ≡ is_ready clock needs meets s e) u
      none [] = tt
      none (x ∷ u) = (λ lt. absurd (omega arith), none u)
  only_below s all passes rule (suc n) = only_step s all passes n (only_below s all passes rule n) s all rule

  greatest_clock : List D → ℕ
  greatest_clock [] = 0
  greatest_clock (d ∷ s) = clock d + greatest_clock s

  at_last : (f g : D → Bool) (n : ℕ) (t : List D) → greatest_clock t < n → AllByRecursion (λ e. clock e < n → f e ≡ g e) t → AllByRecursion (λ e. f e ≡ g e) t
  unfolding greatest_clock
  at_last f g n [] lt h = tt
  at_last f g n (d ∷ t) lt h = (h.0 (omega arith), at_last f g n t (omega arith) h.1)

  pub the_only_ready : (s : List D) → AllByRecursion (NeedsAreOlder clock needs meets) s → IsTheOnlyReady clock needs meets s
  the_only_ready s all = record {
    satisfies = satisfied s all s all;
    only = λ passes rule. at_last passes (is_ready clock needs meets s) (suc (greatest_clock s)) s (omega arith) (only_below s all passes rule (suc (greatest_clock s)));
  }

-- What a sort by start gives.
use Rattle.std.proofs.Common.{◌≡◌, ℕ, zero, suc, ◌+◌, ◌-◌, ◌<◌, ◌≤◌, inl, inr, List, length, get_or, add-zero, refl, sym, ◌∙◌, ap, subst, arith, false, true, IsPermutation}
use Rattle.std.specs.Ordering.{nat_cmp, is_lt, ordering_then}
use Rattle.std.specs.List.{All}
use Rattle.std.specs.List.Sorted.{IsSorted}
use Rattle.std.proofs.lemmas.Bool.{cases_lt, false≢true}
use Rattle.std.proofs.lemmas.List.{get_or_default}
use Rattle.std.specs.Prelude.{nat_lt}
use Rattle.std.proofs.lemmas.Bool.Decides.{nat_tests}
use Rattle.std.proofs.lemmas.List.Sorted.{All-permutation, Contains-permutation}
use Rattle.mt_overlap.specs.declared.span.Span.{Span}
use Rattle.mt_overlap.specs.Overlap.{span_at}
use Rattle.mt_overlap.specs.Sweep.{order_at, IsOrder}

step_up : (a b x y : ℕ) → is_lt (ordering_then (nat_cmp b a) (nat_cmp y x)) ≡ false → a ≤ b
step_up a b x y h =
    elim (cases_lt b a) [
      | inl less ↦ let t : nat_lt b a ≡ true = grind (arith, nat_tests) in let u = rw t at h in absurd (false≢true (sym u))
      | inr le ↦ le
    ]

abbrev pub Adjacent : List (ℕ × ℕ) → Type 0
Adjacent ys = (k : ℕ) → k + 1 < length ys → (order_at ys k).0 ≤ (order_at ys (k + 1)).0

climbs : (ys : List (ℕ × ℕ)) → Adjacent ys → (i n : ℕ) → i + n < length ys → (order_at ys i).0 ≤ (order_at ys (i + n)).0
climbs ys up i zero h = rw add-zero (omega arith)
climbs ys up i (suc n) h =
    let before = climbs ys up i n (omega arith) in
    let last = up (i + n) (omega arith) in
    let same : i + suc n ≡ (i + n) + 1 = omega arith in
    rw same (omega arith)

pub order_is : (spans : List Span) (xs ys : List (ℕ × ℕ)) → length xs ≡ length spans → ((k : ℕ) → k < length spans → order_at xs k ≡ ((span_at spans k).start, k))
    → IsPermutation xs ys → IsSorted (λ (a b : ℕ × ℕ). ordering_then (nat_cmp a.0 b.0) (nat_cmp a.1 b.1)) ys → IsOrder spans ys
order_is spans xs ys len each moved sorted = record {
  rise = λ i j le within. let e : i + (j - i) ≡ j = omega arith in subst (λ n. (order_at ys i).0 ≤ (order_at ys n).0) e (climbs ys up i (j - i) (omega arith));
  same = λ j within. All-permutation Starts xs ys moved starts j (0, 0) within;
  all = λ i within. let there = Contains-permutation xs ys ((span_at spans i).start, i) moved (i, omega arith, any i _ within ∙ each i within) in
      (there.0, there.1, ap (λ (p : ℕ × ℕ). p.1) (sym (get_or_default ys there.0 _ (0, 0) there.1) ∙ there.2));
}
  where
    up : Adjacent ys
    up k h = step_up (order_at ys k).0 (order_at ys (k + 1)).0 (order_at ys k).1 (order_at ys (k + 1)).1 (sorted k (0, 0) (omega arith) h)

    Starts : ℕ × ℕ → Type 0
    Starts s = (s.1 < length spans) × ((span_at spans s.1).start ≡ s.0)

    any : (k : ℕ) (d : ℕ × ℕ) → k < length spans → get_or xs k d ≡ order_at xs k
    any k d h = get_or_default xs k d (0, 0) (omega arith)

    starts : All Starts xs
    starts k d h =
        let within : k < length spans = omega arith in
        subst Starts (sym (any k d within ∙ each k within)) (within, refl)

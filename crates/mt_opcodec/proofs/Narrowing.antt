-- Halving the runs of a log.
use Rattle.std.proofs.Common.{◌≡◌, ℕ, zero, suc, ◌+◌, ◌<◌, ◌≤◌, List, [], ◌∷◌, Some, length, sym, ap, ◌∙◌, subst, arith, inl, inr}
use Rattle.std.specs.Prelude.{slice_get}
use Rattle.std.proofs.lemmas.Option.{same_Some, none-some, slice_get_within}
use Rattle.std.proofs.lemmas.Bool.{cases_lt}
use Rattle.mt_stamp.specs.declared.name.Replica.{Replica}
use Rattle.mt_opcodec.specs.Runs.{RunOf, AreAbove, RunsRise, IsRunGap}

pub above_at : (s : Replica) (runs : List RunOf) → AreAbove s runs → (k : ℕ) (r : RunOf) → slice_get runs k ≡ Some r → s.0 < r.replica.0
above_at s [] h k r e = absurd (none-some r e)
above_at s (x ∷ runs) h zero r e = subst (λ (y : RunOf). s.0 < y.replica.0) (same_Some x r e) h.0
above_at s (x ∷ runs) h (suc k) r e = above_at s runs h.1 k r e

-- a later run is of a greater replica
pub rise-at : (runs : List RunOf) → RunsRise runs → (i j : ℕ) (a b : RunOf) → i < j → slice_get runs i ≡ Some a → slice_get runs j ≡ Some b → a.replica.0 < b.replica.0
rise-at [] h i j a b lt at_i at_j = absurd (none-some a at_i)
rise-at (x ∷ runs) h i zero a b lt at_i at_j = absurd (omega arith)
rise-at (x ∷ runs) h zero (suc j) a b lt at_i at_j = subst (λ (y : RunOf). y.replica.0 < b.replica.0) (same_Some x a at_i) (above_at x.replica runs h.0 j b at_j)
rise-at (x ∷ runs) h (suc i) (suc j) a b lt at_i at_j = rise-at runs h.1 i j a b (omega arith) at_i at_j

-- a replica's run stands nowhere but between two places
pub record Narrows (runs : List RunOf) (s : Replica) (low high : ℕ) : Type 0 where
  pub low_first : low ≤ high
  pub in_range : high ≤ length runs
  pub smaller_before : (k : ℕ) (r : RunOf) → k < low → slice_get runs k ≡ Some r → r.replica.0 < s.0
  pub greater_after : (k : ℕ) (r : RunOf) → high ≤ k → slice_get runs k ≡ Some r → s.0 < r.replica.0

pub Narrows-start : (runs : List RunOf) (s : Replica) → Narrows runs s 0 (length runs)
Narrows-start runs s = record {
  low_first = omega arith;
  in_range = omega arith;
  smaller_before = λ k r lt e. absurd (omega arith);
  greater_after = λ k r le e. let within = slice_get_within runs k r e in absurd (omega arith);
}

module _ (runs : List RunOf) (s : Replica) (low high m : ℕ) (at : RunOf) (rise : RunsRise runs) (n : Narrows runs s low high) (from : low ≤ m) (to : m < high) (is : slice_get runs m ≡ Some at) where
  pub Narrows-up : at.replica.0 < s.0 → Narrows runs s (m + 1) high
  Narrows-up less = record {
    low_first = omega arith;
    in_range = n.in_range;
    smaller_before = λ k r lt e. elim (cases_lt k m) [
      | inl before ↦ let earlier = rise-at runs rise k m r at before e is in omega arith
      | inr not_before ↦ let here : k ≡ m = omega arith in subst (λ (y : RunOf). y.replica.0 < s.0) (same_Some at r (sym is ∙ ap (slice_get runs) (sym here) ∙ e)) less
    ];
    greater_after = n.greater_after;
  }

  pub Narrows-down : s.0 < at.replica.0 → Narrows runs s low m
  Narrows-down less = record {
    low_first = from;
    in_range = omega (arith, n.in_range);
    smaller_before = n.smaller_before;
    greater_after = λ k r le e. elim (cases_lt m k) [
      | inl after ↦ let later = rise-at runs rise m k at r after is e in omega arith
      | inr not_after ↦ let here : k ≡ m = omega arith in subst (λ (y : RunOf). s.0 < y.replica.0) (same_Some at r (sym is ∙ ap (slice_get runs) (sym here) ∙ e)) less
    ];
  }

pub Narrows-end : (runs : List RunOf) (s : Replica) (low high : ℕ) → Narrows runs s low high → high ≤ low → IsRunGap runs s low
Narrows-end runs s low high n le = record {
  in_range = omega (arith, n.in_range);
  smaller_before = n.smaller_before;
  greater_after = λ k r from e. n.greater_after k r (omega arith) e;
}

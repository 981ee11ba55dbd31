-- What is ready does not depend on how a list is put in order.
use Rattle.std.proofs.Common.{◌≡◌, ℕ, zero, suc, Bool, List, [], ◌∷◌, not, length, refl, ap, ◌∙◌}
use Rattle.std.specs.List.{filter, list_any, list_all, sum_by}
use Rattle.mt_op.specs.Ready.{is_ready_below, is_ready, ready, held}
use Rattle.mt_stamp.proofs.SameItems.{SameItems, same_filter, same_any, same_length}

module _ {D Q : Type 0} (clock : D → ℕ) (needs : D → List Q) (meets : Q → D → Bool) (s t : List D) (same : SameItems s t) where
  met_same : (p q : D → Bool) → p ≡ q → (ns : List Q) → list_all (λ need. list_any p (filter (meets need) s)) ns ≡ list_all (λ need. list_any q (filter (meets need) t)) ns
  met_same p q e [] = refl
  met_same p q e (n ∷ ns) = cc (same_any (filter (meets n) s) (filter (meets n) t) (same_filter s t same (meets n)) p ∙ ap (λ (r : D → Bool). list_any r (filter (meets n) t)) e, met_same p q e ns)

  below_same : (n : ℕ) → is_ready_below clock needs meets n s ≡ is_ready_below clock needs meets n t
  below_same zero = refl
  below_same (suc n) = let each : (d : D) → is_ready_below clock needs meets (suc n) s d ≡ is_ready_below clock needs meets (suc n) t d = λ d. met_same (is_ready_below clock needs meets n s) (is_ready_below clock needs meets n t) (below_same n) (needs d) in λ i d. each d i

  -- one test of both
  pub is_ready_same : is_ready clock needs meets s ≡ is_ready clock needs meets t
  is_ready_same = λ i d. below_same (suc (clock d)) i d

  pub ready_same : SameItems (ready clock needs meets s) (ready clock needs meets t)
  ready_same f = same_filter s t same (is_ready clock needs meets s) f ∙ ap (λ (p : D → Bool). sum_by f (filter p t)) is_ready_same

  pub held_same : length (held clock needs meets s) ≡ length (held clock needs meets t)
  held_same =
      same_length (held clock needs meets s) (filter (λ d. not (is_ready clock needs meets s d)) t) (same_filter s t same (λ d. not (is_ready clock needs meets s d)))
      ∙ ap (λ (p : D → Bool). length (filter (λ d. not (p d)) t)) is_ready_same

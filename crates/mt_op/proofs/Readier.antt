-- What is ready among some is ready among more.
use Rattle.std.proofs.Common.{◌≡◌, ℕ, zero, suc, Bool, true, List, [], ◌∷◌, refl}
use Rattle.std.specs.List.{filter, list_any, list_all}
use Rattle.mt_stamp.proofs.Members.{IsMember, member_kept, member_of_kept}
use Rattle.mt_stamp.proofs.Listed.{any_member, member_any, is_member, is_contained}
use Rattle.mt_op.specs.Needs.{needs, meets, clock_of}
use Rattle.mt_op.specs.Ready.{is_ready_below, is_ready}
use Rattle.mt_op.specs.Laws.{ReadyAmongMore}
use Rattle.mt_op.proofs.Needs.{and_first, and_second}

module _ {D Q : Type 0} (clock : D → ℕ) (needs : D → List Q) (meets : Q → D → Bool) (s t : List D) (within : (x : D) → IsMember x s → IsMember x t) where
  met_more : (p q : D → Bool) → ((x : D) → p x ≡ true → q x ≡ true) → (ns : List Q) → list_all (λ need. list_any p (filter (meets need) s)) ns ≡ true → list_all (λ need. list_any q (filter (meets need) t)) ns ≡ true
  met_more p q more [] all = refl
  met_more p q more (n ∷ ns) all =
      let one = any_member p (filter (meets n) s) (and_first _ _ all) in
      let there = member_of_kept (meets n) s one.0 one.1.0 in
      rw (member_any q (filter (meets n) t) one.0 (member_kept (meets n) t one.0 (within one.0 there.0) there.1) (more one.0 one.1.1)) (met_more p q more ns (and_second _ _ all))

  below_more : (n : ℕ) (d : D) → is_ready_below clock needs meets n s d ≡ true → is_ready_below clock needs meets n t d ≡ true
  below_more zero d is = is
  below_more (suc n) d is = met_more (is_ready_below clock needs meets n s) (is_ready_below clock needs meets n t) (below_more n) (needs d) is

  pub ready_more : (d : D) → is_ready clock needs meets s d ≡ true → is_ready clock needs meets t d ≡ true
  ready_more d is = below_more (suc (clock d)) d is

pub ready_among_more : ReadyAmongMore
ready_among_more some more within = ready_more clock_of needs meets some more (λ o m. is_member more o (within o (is_contained some o m)))

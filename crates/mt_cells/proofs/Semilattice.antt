-- What values are together is their least upper bound, so it depends on which they are alone.
use Rattle.std.proofs.Common.{◌≡◌, Bool, true, false, List, [], ◌∷◌, refl, sym, ◌∙◌}
use Rattle.std.specs.Prelude.{IsTrue, Ok, Err, IfOk}
use Rattle.std.specs.declared.result.Result.{Result}
use Rattle.std.specs.Cmp.{IsEquivalence}
use Rattle.mt_cells.specs.Folds.{join_all, is_in, SameValues}

module _ {X : Type 0} {E : X → X → Bool} (e : IsEquivalence E) where
  with_next : (a b c : X) → IsTrue (E a b) → IsTrue (E b c) → IsTrue (E a c)
  with_next a b c ab bc = e.congr a b c ab ∙ bc

  turn : (a b : X) → IsTrue (E a b) → IsTrue (E b a)
  turn a b ab = e.symm b a ∙ ab

  -- what is in a list is in a longer one
  still_in : (y : X) (ys : List X) (z : X) → IsTrue (is_in E ys z) → IsTrue (is_in E (y ∷ ys) z)
  still_in y ys z is = by (E z y) refl
    where
      by : (t : Bool) → E z y ≡ t → IsTrue (is_in E (y ∷ ys) z)
      by true same = rw same refl
      by false other = rw other is

  module _ {j : X → X → X} (commutes : (a b : X) → IsTrue (E (j a b) (j b a))) (associates : (a b c : X) → IsTrue (E (j (j a b) c) (j a (j b c)))) (once : (a : X) → IsTrue (E (j a a) a))
      (respects : (a b c d : X) → IsTrue (E a b) → IsTrue (E c d) → IsTrue (E (j a c) (j b d))) where
    -- a adds nothing to b
    abbrev IsBelow : X → X → Type 0
    IsBelow a b = IsTrue (E (j a b) b)

    below_next : (a b c : X) → IsBelow a b → IsBelow b c → IsBelow a c
    below_next a b c ab bc =
        with_next (j a c) (j a (j b c)) c (respects a a c (j b c) (e.refl a) (turn (j b c) c bc))
        (with_next (j a (j b c)) (j (j a b) c) c (turn (j (j a b) c) (j a (j b c)) (associates a b c))
        (with_next (j (j a b) c) (j b c) c (respects (j a b) b c c ab (e.refl c)) bc))

    same_below : (a b : X) → IsBelow a b → IsBelow b a → IsTrue (E a b)
    same_below a b ab ba = with_next a (j b a) b (turn (j b a) a ba) (with_next (j b a) (j a b) b (commutes b a) ab)

    alike_below : (a b c : X) → IsTrue (E a b) → IsBelow b c → IsBelow a c
    alike_below a b c ab bc = with_next (j a c) (j b c) c (respects a b c c ab (e.refl c)) bc

    below_alike : (a b c : X) → IsBelow a b → IsTrue (E b c) → IsBelow a c
    below_alike a b c ab bc = with_next (j a c) (j a b) c (respects a a c b (e.refl a) (turn b c bc)) (with_next (j a b) b c ab bc)

    below_left : (a b : X) → IsBelow a (j a b)
    below_left a b = with_next (j a (j a b)) (j (j a a) b) (j a b) (turn (j (j a a) b) (j a (j a b)) (associates a a b)) (respects (j a a) a b b (once a) (e.refl b))

    below_right : (a b : X) → IsBelow b (j a b)
    below_right a b = below_alike b (j b a) (j a b) (below_left b a) (commutes b a)

    least : (a b c : X) → IsBelow a c → IsBelow b c → IsBelow (j a b) c
    least a b c ac bc = with_next (j (j a b) c) (j a (j b c)) c (associates a b c) (with_next (j a (j b c)) (j a c) c (respects a a (j b c) c (e.refl a) bc) ac)

    all_from : (x : X) (ys : List X) → IsBelow x (join_all j x ys)
    all_from x [] = once x
    all_from x (y ∷ ys) = below_next x (j x y) (join_all j (j x y) ys) (below_left x y) (all_from (j x y) ys)

    all_has : (x : X) (ys : List X) (z : X) → IsTrue (is_in E ys z) → IsBelow z (join_all j x ys)
    all_has x [] z is = cc is
    all_has x (y ∷ ys) z is = by (E z y) refl (all_has (j x y) ys z)
      where
        by : (t : Bool) → E z y ≡ t → (IsTrue (is_in E ys z) → IsBelow z (join_all j (j x y) ys)) → IsBelow z (join_all j (j x y) ys)
        by true same rest = below_next z (j x y) (join_all j (j x y) ys) (alike_below z y (j x y) same (below_right x y)) (all_from (j x y) ys)
        by false other rest = rest (rw other at is)

    all_least : (x : X) (ys : List X) (u : X) → IsBelow x u → ((z : X) → IsTrue (is_in E ys z) → IsBelow z u) → IsBelow (join_all j x ys) u
    all_least x [] u first others = first
    all_least x (y ∷ ys) u first others =
        all_least (j x y) ys u (least x y u first (others y (rw (e.refl y) refl))) (λ z is. others z (still_in y ys z is))

    -- each value of either list adds nothing to what the other's are together
    one_below : (x : X) (xs : List X) (y : X) (ys : List X) → SameValues E (x ∷ xs) (y ∷ ys) → IsBelow (join_all j y ys) (join_all j x xs)
    one_below x xs y ys same = all_least y ys (join_all j x xs) (has y (rw (e.refl y) refl)) (λ z is. has z (still_in y ys z is))
      where
        has : (z : X) → IsTrue (is_in E (y ∷ ys) z) → IsBelow z (join_all j x xs)
        has z is = by (E z x) refl (same z ∙ is)
          where
            by : (t : Bool) → E z x ≡ t → IsTrue (is_in E (x ∷ xs) z) → IsBelow z (join_all j x xs)
            by true here there = alike_below z x (join_all j x xs) here (all_from x xs)
            by false other there = all_has x xs z (rw other at there)

    pub any_order : (x : X) (xs : List X) (y : X) (ys : List X) → SameValues E (x ∷ xs) (y ∷ ys) → IsTrue (E (join_all j x xs) (join_all j y ys))
    any_order x xs y ys same =
        same_below (join_all j x xs) (join_all j y ys) (one_below y ys x xs (λ z. sym (same z))) (one_below x xs y ys same)

    -- the same of an answer
    pub any_order-answered : {F : Type 0} (r : Result X F) (y : X) (ys : List X) → IfOk r (λ all. all ≡ join_all j y ys)
        → IfOk r (λ all. (x : X) (xs : List X) → SameValues E (x ∷ xs) (y ∷ ys) → IsTrue (E all (join_all j x xs)))
    any_order-answered (Ok all) y ys is = λ x xs same. rw is (any_order y ys x xs (λ z. sym (same z)))
    any_order-answered (Err f) y ys is = tt

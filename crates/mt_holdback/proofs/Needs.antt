-- Needs, one after another.
use Rattle.std.proofs.Common.{◌≡◌, ℕ, zero, suc, ◌≤◌, Bool, true, false, ◌&&◌, List, [], ◌∷◌, length, take, Some, refl, ap, ◌∙◌, subst, arith}
use Rattle.std.specs.Prelude.{slice_get}
use Rattle.std.specs.List.{AllByRecursion, list_all}
use Rattle.std.proofs.lemmas.Option.{same_Some, none-some}
use Rattle.mt_holdback.proofs.Keys.{not_and}

module _ {Q : Type 0} (f : Q → Bool) where
  pub all_step : (ns : List Q) (i : ℕ) (need : Q) → slice_get ns i ≡ Some need → f need ≡ true → list_all f (take i ns) ≡ true → list_all f (take (suc i) ns) ≡ true
  all_step [] i need at met before = absurd (none-some need at)
  all_step (n ∷ ns) zero need at met before = rw (ap f (same_Some n need at) ∙ met) refl
  all_step (n ∷ ns) (suc i) need at met before = by (f n) before (all_step ns i need at met)
    where
      by : (b : Bool) → (b && list_all f (take i ns)) ≡ true → (list_all f (take i ns) ≡ true → list_all f (take (suc i) ns) ≡ true) → (b && list_all f (take (suc i) ns)) ≡ true
      by true h rest = rest h
      by false h rest = h

  pub all_past : (ns : List Q) (i : ℕ) → length ns ≤ i → list_all f (take i ns) ≡ true → list_all f ns ≡ true
  all_past [] i past h = refl
  all_past (n ∷ ns) zero past h = absurd (omega (arith, past))
  all_past (n ∷ ns) (suc i) past h = by (f n) h (all_past ns i (omega (arith, past)))
    where
      by : (b : Bool) → (b && list_all f (take i ns)) ≡ true → (list_all f (take i ns) ≡ true → list_all f ns ≡ true) → (b && list_all f ns) ≡ true
      by true h rest = rest h
      by false h rest = h

  pub one_fails : (ns : List Q) (i : ℕ) (need : Q) → slice_get ns i ≡ Some need → f need ≡ false → list_all f ns ≡ false
  one_fails [] i need at fails = absurd (none-some need at)
  one_fails (n ∷ ns) zero need at fails = not_and (f n) _ (ap f (same_Some n need at) ∙ fails)
  one_fails (n ∷ ns) (suc i) need at fails = by (f n) (one_fails ns i need at fails)
    where
      by : (b : Bool) → list_all f ns ≡ false → (b && list_all f ns) ≡ false
      by true h = h
      by false h = refl

pub all_at : {Q : Type 0} (P : Q → Type 0) (ns : List Q) (i : ℕ) (need : Q) → AllByRecursion P ns → slice_get ns i ≡ Some need → P need
all_at P [] i need all at = absurd (none-some need at)
all_at P (n ∷ ns) zero need all at = subst P (same_Some n need at) all.0
all_at P (n ∷ ns) (suc i) need all at = all_at P ns i need all.1 at

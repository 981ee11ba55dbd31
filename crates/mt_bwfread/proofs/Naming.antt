-- What is said first of a name, one step after the other.
use Rattle.std.proofs.Common.{◌≡◌, ℕ, Bool, true, false, cond, List, [], ◌∷◌, refl, sym, ap, ◌∙◌}
use Rattle.std.specs.Prelude.{find, Option, Some, None, ◌==◌}
use Rattle.std.specs.Option.{option_map}
use Rattle.std.proofs.lemmas.Bool.{eq-eqb, ne_eqb}
use Rattle.mt_bwfread.specs.Cues.{Named, first_for}

module _ {X : Type 0} where
  value_if : (b : Bool) (x y : Option X) (found other : Option (Named X)) → option_map (λ n. n.value) found ≡ x → option_map (λ n. n.value) other ≡ y → option_map (λ n. n.value) (cond b found other) ≡ cond b x y
  value_if true x y found other p q = p
  value_if false x y found other p q = q

  first_step : (name : ℕ) (n : Named X) (more : List (Named X)) → first_for name (n ∷ more) ≡ cond (n.name == name) (Some n.value) (first_for name more)
  unfolding first_for
  first_step name n more = value_if (n.name == name) (Some n.value) (option_map (λ n. n.value) (find (λ n. n.name == name) more)) (Some n) (find (λ n. n.name == name) more) refl refl

  pub first_here : (name : ℕ) (all more : List (Named X)) (n : Named X) (total : Option X) → all ≡ n ∷ more → first_for name all ≡ total → n.name ≡ name → Some n.value ≡ total
  first_here name all more n total is so_far same =
      let test : (n.name == name) ≡ true = eq-eqb n.name name same in
      let one : first_for name all ≡ Some n.value = ap (first_for name) is ∙ first_step name n more ∙ rw test refl in
      sym one ∙ so_far

  pub first_later : (name : ℕ) (all more : List (Named X)) (n : Named X) (total : Option X) → all ≡ n ∷ more → first_for name all ≡ total → (n.name ≡ name → ⊥) → first_for name more ≡ total
  first_later name all more n total is so_far other =
      let test : (n.name == name) ≡ false = ne_eqb n.name name other in
      let one : first_for name all ≡ first_for name more = ap (first_for name) is ∙ first_step name n more ∙ rw test refl in
      sym one ∙ so_far

  pub first_none : (name : ℕ) (all : List (Named X)) (total : Option X) → all ≡ [] → first_for name all ≡ total → None ≡ total
  unfolding first_for
  first_none name all total is so_far = let one : first_for name all ≡ None = rw is refl in sym one ∙ so_far

-- What may be there.
use Rattle.std.proofs.Common.{◌≡◌, ◌≢◌, ◌==◌, ◌<◌, ℕ, List, [], ◌∷◌, slice_index, ap, arith, Bool, true, false, ◌&&◌, if◌then◌else◌, Option, Some, None, refl}

-- what passed two tests
pub passed : {X : Type 0} (a b : Bool) (x y : X) → (if a && b then Some x else None) ≡ Some y → (a ≡ true) × (b ≡ true) × (x ≡ y)
passed true true x y is = (refl, refl, cc)
passed true false x y is = absurd cc
passed false b x y is = absurd cc

-- nothing is there
pub nothing : {X : Type 0} (o : Option X) → ((x : X) → o ≡ Some x → ⊥) → o ≡ None
nothing None never = refl
nothing (Some x) never = absurd (never x refl)

-- a test that cannot pass
pub failed : (b : Bool) → (b ≡ true → ⊥) → b ≡ false
failed false never = refl
failed true never = absurd (never refl)

-- a text does not begin with a byte
pub begins_otherwise : (byte : ℕ) (text : List ℕ) → 0 < byte → ((rest : List ℕ) → text ≢ byte ∷ rest) → (slice_index text 0 == byte) ≡ false
begins_otherwise byte [] some never = grind arith
begins_otherwise byte (b ∷ bs) some never =
    failed (b == byte) (λ is. let same : b ≡ byte = grind arith in never bs (ap (λ (x : ℕ). x ∷ bs) same))

-- Which texts are UTF-8.
use Rattle.std.proofs.Common.{◌≡◌, ℕ, List, Bool, true, false, sym, refl}
use Rattle.std.specs.Prelude.{Result, Ok, Err}
use Rattle.std.specs.Result.{MatchResult, is_ok}
use Rattle.std.specs.Str.{IsUtf8, is_utf8}
use Rattle.std.proofs.lemmas.Str.{is_utf8-from_IsUtf8, IsUtf8-from_is_utf8}

not_so : (b : Bool) → (b ≡ true → ⊥) → false ≡ b
not_so false not = refl
not_so true not = absurd (not refl)

-- a reading succeeds for those that are
pub told : {T E : Type 0} (P : T → Type 0) (Q : E → Type 0) (bs : List ℕ) (r : Result T E)
    → MatchResult r (λ s. P s × IsUtf8 bs) (λ e. (IsUtf8 bs → ⊥) × Q e) → is_ok r ≡ is_utf8 bs
told P Q bs (Ok s) is = sym (is_utf8-from_IsUtf8 bs is.1)
told P Q bs (Err e) is = not_so (is_utf8 bs) (λ so. is.0 (IsUtf8-from_is_utf8 bs so))

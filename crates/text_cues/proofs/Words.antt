-- Texts that are written piece by piece.
use Rattle.std.proofs.Common.{◌≡◌, ℕ, List, ◌++◌, append_assoc}
use Rattle.std.specs.Prelude.{Result, Ok, Err, if◌then◌else◌}
use Rattle.std.specs.Result.{OnOk, is_ok}

-- five pieces
pub five_pieces : (old t1 t2 t3 t4 new a b c d e : List ℕ) → t1 ≡ old ++ a → t2 ≡ t1 ++ b → t3 ≡ t2 ++ c
    → t4 ≡ t3 ++ d → new ≡ t4 ++ e → new ≡ old ++ ((a ++ (b ++ (c ++ d))) ++ e)
five_pieces old t1 t2 t3 t4 new a b c d e e1 e2 e3 e4 e5 = rw (e5, e4, e3, e2, e1) (simp append_assoc)

-- a piece that is written where memory is there
pub when_ok : {T E : Type 0} (r : Result T E) (old new piece : List ℕ)
    → new ≡ (if is_ok r then old ++ piece else old) → OnOk r (new ≡ old ++ piece)
when_ok (Ok v) old new piece is = is
when_ok (Err e) old new piece is = tt

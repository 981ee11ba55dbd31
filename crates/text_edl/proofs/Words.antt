-- Texts that are written piece by piece.
use Rattle.std.proofs.Common.{◌≡◌, ℕ, List, ◌++◌, append_assoc}

pub three_pieces : (old t1 t2 new a b c : List ℕ) → t1 ≡ old ++ a → t2 ≡ t1 ++ b → new ≡ t2 ++ c
    → new ≡ old ++ (a ++ (b ++ c))
three_pieces old t1 t2 new a b c e1 e2 e3 = rw (e3, e2, e1) (simp append_assoc)

pub seven_pieces : (old t1 t2 t3 t4 t5 t6 new a b c d e f g : List ℕ) → t1 ≡ old ++ a → t2 ≡ t1 ++ b
    → t3 ≡ t2 ++ c → t4 ≡ t3 ++ d → t5 ≡ t4 ++ e → t6 ≡ t5 ++ f → new ≡ t6 ++ g
    → new ≡ old ++ (a ++ (b ++ (c ++ (d ++ (e ++ (f ++ g))))))
seven_pieces old t1 t2 t3 t4 t5 t6 new a b c d e f g e1 e2 e3 e4 e5 e6 e7 =
    rw (e7, e6, e5, e4, e3, e2, e1) (simp append_assoc)

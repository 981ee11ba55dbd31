-- No two stamps have one text.
use Rattle.std.proofs.Common.{◌≡◌, ◌≢◌, ℕ, suc, ◌<◌, ◌^◌, List, [], ◌∷◌, ◌++◌, length, get_or, refl, sym, ◌∙◌, arith}
use Rattle.std.specs.Fmt.{decimal}
use Rattle.std.specs.Int.{w128, from_be_bytes}
use Rattle.std.proofs.lemmas.Fmt.{decimal_injective}
use Rattle.mt_stamp.specs.declared.name.Replica.{Replica}
use Rattle.mt_stamp.specs.Texts.{replica_bytes, replica_text}
use Rattle.mt_stamp.specs.Laws.{TextsAreApart}
use Rattle.mt_stamp.proofs.Order.{same_moment}
use Rattle.mt_stamp.proofs.Texts.{replica_text_parses, replica_read_back, decimal_has_no_point}

abbrev HasNoPoint : List ℕ → Type 0
HasNoPoint xs = (i : ℕ) → i < length xs → get_or xs i 0 ≢ 46

rest_has_none : (x : ℕ) (xs : List ℕ) → HasNoPoint (x ∷ xs) → HasNoPoint xs
rest_has_none x xs none i within = none (suc i) (omega arith)

-- a text is cut in one way at its first point
cut_in_one_way : (xs us ys vs : List ℕ) → HasNoPoint xs → HasNoPoint us → xs ++ (46 ∷ ys) ≡ us ++ (46 ∷ vs) → (xs ≡ us) × (ys ≡ vs)
cut_in_one_way [] [] ys vs no_x no_u same = (refl, cc)
cut_in_one_way [] (u ∷ us) ys vs no_x no_u same = absurd (no_u 0 (omega arith) cc)
cut_in_one_way (x ∷ xs) [] ys vs no_x no_u same = absurd (no_x 0 (omega arith) cc)
cut_in_one_way (x ∷ xs) (u ∷ us) ys vs no_x no_u same =
    let tails : xs ++ (46 ∷ ys) ≡ us ++ (46 ∷ vs) = cc in
    let cut = cut_in_one_way xs us ys vs (rest_has_none x xs no_x) (rest_has_none u us no_u) tails in
    let head : x ≡ u = cc in
    (λ i. head i ∷ cut.0 i, cut.1)

-- a number, a point and what follows, in one way
number_and_rest : (m n : ℕ) (ys vs : List ℕ) → m < 2 ^ 64 → n < 2 ^ 64 → decimal m ++ (46 ∷ ys) ≡ decimal n ++ (46 ∷ vs) → (m ≡ n) × (ys ≡ vs)
number_and_rest m n ys vs m_fits n_fits same =
    let cut = cut_in_one_way (decimal m) (decimal n) ys vs (decimal_has_no_point m m_fits) (decimal_has_no_point n n_fits) same in
    (decimal_injective m n m_fits n_fits cut.0, cut.1)

same_replica_number : (r s : Replica) → r.0 < 2 ^ 128 → s.0 < 2 ^ 128 → replica_text r ≡ replica_text s → r.0 ≡ s.0
same_replica_number r s r_fits s_fits same =
    let parsed_so = replica_text_parses r in
    let number = from_be_bytes w128 (replica_bytes r) in
    let is_r = replica_read_back r (replica_text r) (replica_bytes r) number r_fits refl parsed_so refl in
    let is_s = replica_read_back s (replica_text r) (replica_bytes r) number s_fits same parsed_so refl in
    sym is_r ∙ is_s

pub texts_are_apart : TextsAreApart
texts_are_apart a b a_fits b_fits same =
    let first = number_and_rest a.clock b.clock _ _ (omega (arith, a_fits.clock_to)) (omega (arith, b_fits.clock_to)) same in
    let second = number_and_rest a.seq b.seq _ _ (omega (arith, a_fits.seq_to)) (omega (arith, b_fits.seq_to)) first.1 in
    same_moment a b first.0 (same_replica_number a.replica b.replica a_fits.replica_fits b_fits.replica_fits second.1) second.0

-- Bytes as text, chunk by chunk.
use Rattle.std.proofs.Common.{◌≡◌, ℕ, zero, suc, ◌+◌, ◌-◌, ◌≤◌, true, false, ◌==◌, if◌then◌else◌}
use Rattle.std.proofs.Common.{List, [], ◌∷◌, ◌++◌, length, get_or, take, drop}
use Rattle.std.proofs.Common.{refl, sym, ap, ◌∙◌, arith, append_assoc, length-drop}
use Rattle.std.specs.Str.Lossy.{utf8_valid_len}
use Rattle.std.proofs.lemmas.List.{take_all, drop-drop, get_or-drop}
use Rattle.text_cues.specs.Title.{escaped, kept, shown_within, shown}

-- what is shown where a chunk ends the bytes or does not, by what is shown of the rest
abbrev step : List ℕ → List ℕ → List ℕ
step bs rest =
    if utf8_valid_len bs == length bs then kept bs
    else kept (take (utf8_valid_len bs) bs) ++ (escaped (get_or bs (utf8_valid_len bs) 0) ++ rest)

nothing : (bs : List ℕ) → length bs ≤ 0 → bs ≡ []
nothing [] none = refl
nothing (b ∷ bs) none = absurd (omega arith)

none_shown : (k : ℕ) → shown_within k [] ≡ []
unfolding utf8_valid_len
none_shown zero = refl
none_shown (suc k) = refl

-- as many steps as there are bytes are enough
enough : (j k : ℕ) (bs : List ℕ) → length bs ≤ j → length bs ≤ k → shown_within j bs ≡ shown_within k bs
enough zero k bs few most =
    ap (shown_within zero) (nothing bs few) ∙ sym (ap (shown_within k) (nothing bs few) ∙ none_shown k)
enough (suc j) zero bs most few =
    ap (shown_within (suc j)) (nothing bs few) ∙ none_shown (suc j) ∙ sym (ap (shown_within zero) (nothing bs few))
enough (suc j) (suc k) bs most more =
    let left = drop (utf8_valid_len bs + 1) bs in
    let n = length-drop (utf8_valid_len bs + 1) bs in
    ap (step bs) (enough j k left (omega (arith, n)) (omega (arith, n)))

pub shown_by_step : (bs : List ℕ) → shown bs ≡ step bs (shown (drop (utf8_valid_len bs + 1) bs))
unfolding shown utf8_valid_len
shown_by_step [] = refl
shown_by_step (b ∷ bs) =
    let left = drop (utf8_valid_len (b ∷ bs) + 1) (b ∷ bs) in
    let n = length-drop (utf8_valid_len (b ∷ bs) + 1) (b ∷ bs) in
    ap (step (b ∷ bs)) (enough (length bs) (length left) left (omega (arith, n)) (omega arith))

pub shown_last : (bs : List ℕ) → utf8_valid_len bs ≡ length bs → shown bs ≡ kept bs
shown_last bs all =
    let is : (utf8_valid_len bs == length bs) ≡ true = grind arith in
    shown_by_step bs ∙ rw is

shown_more : (bs : List ℕ) → (utf8_valid_len bs ≡ length bs → ⊥)
    → shown bs ≡ kept (take (utf8_valid_len bs) bs)
    ++ (escaped (get_or bs (utf8_valid_len bs) 0) ++ shown (drop (utf8_valid_len bs + 1) bs))
shown_more bs not_all =
    let is : (utf8_valid_len bs == length bs) ≡ false = grind arith in
    shown_by_step bs ∙ rw is

-- a chunk more
pub showing_more : (start old mid new bytes rest after left : List ℕ) (n m k : ℕ)
    → n ≡ utf8_valid_len rest → (n ≡ length rest → ⊥) → old ++ shown rest ≡ start ++ shown bytes
    → m ≡ length rest → after ≡ take (m - n) (drop n rest) → k ≡ length after → left ≡ take (k - 1) (drop 1 after)
    → mid ≡ old ++ kept (take n rest) → new ≡ mid ++ escaped (get_or after 0 0)
    → new ++ shown left ≡ start ++ shown bytes
showing_more start old mid new bytes rest after left n m k valid some had is_m is_after is_k is_left first second =
    let a = kept (take n rest) in
    let b = escaped (get_or rest n 0) in
    let c = shown (drop (n + 1) rest) in
    let whole : after ≡ drop n rest = is_after ∙ take_all (m - n) (drop n rest) (omega (arith, is_m, length-drop n rest)) in
    let is : left ≡ drop (n + 1) rest =
    is_left ∙ take_all (k - 1) (drop 1 after) (omega (arith, is_k, length-drop 1 after))
    ∙ ap (drop 1) whole ∙ drop-drop 1 n rest in
    let byte : get_or after 0 0 ≡ get_or rest n 0 = ap (λ (bs : List ℕ). get_or bs 0 0) whole
    ∙ get_or-drop n rest 0 0 ∙ ap (λ (i : ℕ). get_or rest i 0) (omega arith) in
    let all : shown rest ≡ a ++ (b ++ c) =
    shown_more rest (λ same. some (valid ∙ same))
    ∙ ap (λ (i : ℕ). kept (take i rest) ++ (escaped (get_or rest i 0) ++ shown (drop (i + 1) rest))) (sym valid) in
    (λ i. ((second ∙ ap (λ (x : ℕ). mid ++ escaped x) byte) ∙ ap (λ (t : List ℕ). t ++ b) first) i ++ shown (is i))
    ∙ append_assoc (old ++ a) b c ∙ append_assoc old a (b ++ c)
    ∙ ap (λ (t : List ℕ). old ++ t) (sym all) ∙ had

-- the last chunk
pub showing_last : (start old new bytes rest : List ℕ) (n : ℕ)
    → n ≡ utf8_valid_len rest → n ≡ length rest → old ++ shown rest ≡ start ++ shown bytes
    → new ≡ old ++ kept (take n rest) → new ≡ start ++ shown bytes
showing_last start old new bytes rest n valid all had first =
    let whole : take n rest ≡ rest = take_all n rest (omega arith) in
    first ∙ ap (λ (t : List ℕ). old ++ kept t) whole
    ∙ ap (λ (t : List ℕ). old ++ t) (sym (shown_last rest (sym valid ∙ all))) ∙ had

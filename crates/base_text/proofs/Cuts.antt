-- Where texts are cut.
use Rattle.std.proofs.Common.{◌≡◌, ◌≢◌, ℕ, suc, ◌+◌, ◌-◌, ◌<◌, List, [], ◌∷◌, ◌++◌, length, get_or, take, drop}
use Rattle.std.proofs.Common.{Some, None, true, false, ◌==◌, refl, sym, ap, ◌∙◌, arith}
use Rattle.std.proofs.lemmas.Bool.{eq-eqb, eqb-true}
use Rattle.std.proofs.Math.Seq.{split_at}
use Rattle.std.proofs.lemmas.List.{length-take-le, get_or-take, take_rest}
use Rattle.memchr.specs.Find.{IsFirstByte, is_byte}
use Rattle.base_text.specs.Cutting.{cut, newline, lines}

-- where a search finds a byte, it is not before
pub front_of : (byte : ℕ) (bs : List ℕ) (at : ℕ) → IsFirstByte (is_byte byte) bs (Some at)
    → (i : ℕ) → i < length (take at bs) → get_or (take at bs) i 0 ≢ byte
front_of byte bs at first i within is =
    let below : i < at = omega (arith, length-take-le at bs) in
    first.0.before i (omega arith) below (eq-eqb (get_or bs i 0) byte (sym (get_or-take at bs i 0 below) ∙ is))

-- the text is cut there
pub split_there : (byte : ℕ) (bs : List ℕ) (at : ℕ) → IsFirstByte (is_byte byte) bs (Some at)
    → bs ≡ take at bs ++ byte ∷ drop (at + 1) bs
split_there byte bs at first =
    let here : get_or bs at 0 ≡ byte = eqb-true (get_or bs at 0) byte first.1 in
    let next : suc at ≡ at + 1 = omega arith in
    split_at bs at 0 first.0.high ∙ ap (λ (b : ℕ). take at bs ++ b ∷ drop (suc at) bs) here
    ∙ ap (λ (n : ℕ). take at bs ++ byte ∷ drop n bs) next

-- where it finds none, there is none
pub none_at_all : (byte : ℕ) (bs : List ℕ) → IsFirstByte (is_byte byte) bs None
    → (i : ℕ) → i < length bs → get_or bs i 0 ≢ byte
none_at_all byte bs none i within is = none i (omega arith) within (eq-eqb (get_or bs i 0) byte is)

-- ---- words

-- a text with no such byte is not cut
pub not_cut : (byte : ℕ) (bs : List ℕ) → ((i : ℕ) → i < length bs → get_or bs i 0 ≢ byte) → cut byte bs ≡ None
not_cut byte [] none = refl
not_cut byte (b ∷ bs) none =
    let other : b ≢ byte = none 0 (omega arith) in
    let here : (b == byte) ≡ false = grind arith in
    rw (here, not_cut byte bs (λ i within. none (suc i) (omega arith)))

-- a text is cut at the first such byte
pub cut_there : (byte : ℕ) (front rest : List ℕ) → ((i : ℕ) → i < length front → get_or front i 0 ≢ byte)
    → cut byte (front ++ (byte ∷ rest)) ≡ Some (front, rest)
cut_there byte [] rest none =
    let here : (byte == byte) ≡ true = grind arith in
    rw here
cut_there byte (b ∷ front) rest none =
    let other : b ≢ byte = none 0 (omega arith) in
    let here : (b == byte) ≡ false = grind arith in
    rw (here, cut_there byte front rest (λ i within. none (suc i) (omega arith)))

pub unfound : (byte : ℕ) (bs : List ℕ) → IsFirstByte (is_byte byte) bs None → None ≡ cut byte bs
unfound byte bs none = sym (not_cut byte bs (none_at_all byte bs none))

pub found : (byte : ℕ) (bs : List ℕ) (at : ℕ) → IsFirstByte (is_byte byte) bs (Some at)
    → Some (take at bs, take (length bs - (at + 1)) (drop (at + 1) bs)) ≡ cut byte bs
found byte bs at first =
    sym (ap (cut byte) (split_there byte bs at first)
    ∙ cut_there byte (take at bs) (drop (at + 1) bs) (front_of byte bs at first)
    ∙ ap (λ (rest : List ℕ). Some (take at bs, rest)) (sym (take_rest bs (at + 1))))

-- ---- lines

-- a text with no newline is one line
pub one_line : (bs : List ℕ) → 0 < length bs → ((i : ℕ) → i < length bs → get_or bs i 0 ≢ newline) → lines bs ≡ bs ∷ []
one_line [] some none = absurd (omega arith)
one_line (b ∷ []) some none =
    let other : b ≢ newline = none 0 (omega arith) in
    let here : (b == newline) ≡ false = grind arith in
    rw here
one_line (b ∷ c ∷ bs) some none =
    let other : b ≢ newline = none 0 (omega arith) in
    let here : (b == newline) ≡ false = grind arith in
    rw (here, one_line (c ∷ bs) (omega arith) (λ i within. none (suc i) (omega arith)))

-- the first line is what precedes the first newline
pub first_line : (front rest : List ℕ) → ((i : ℕ) → i < length front → get_or front i 0 ≢ newline)
    → lines (front ++ (newline ∷ rest)) ≡ front ∷ lines rest
first_line [] rest none = refl
first_line (b ∷ front) rest none =
    let other : b ≢ newline = none 0 (omega arith) in
    let here : (b == newline) ≡ false = grind arith in
    rw (here, first_line front rest (λ i within. none (suc i) (omega arith)))

pub last_line : (bs : List ℕ) → 0 < length bs → IsFirstByte (is_byte newline) bs None → lines bs ≡ bs ∷ []
last_line bs some none = one_line bs some (none_at_all newline bs none)

pub line_and_more : (bs : List ℕ) (at : ℕ) → IsFirstByte (is_byte newline) bs (Some at)
    → lines bs ≡ take at bs ∷ lines (take (length bs - (at + 1)) (drop (at + 1) bs))
line_and_more bs at first =
    ap lines (split_there newline bs at first) ∙ first_line (take at bs) (drop (at + 1) bs) (front_of newline bs at first)
    ∙ ap (λ (rest : List ℕ). take at bs ∷ lines rest) (sym (take_rest bs (at + 1)))

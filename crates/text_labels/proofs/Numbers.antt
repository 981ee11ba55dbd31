-- Numbers and the digits that spell them.
use Rattle.std.proofs.Common.{◌≡◌, ℕ, suc, ◌+◌, ◌-◌, ◌*◌, ◌/◌, ◌<◌, ◌≤◌, ◌^◌, min, true, List, [], ◌∷◌, ◌++◌}
use Rattle.std.proofs.Common.{length, get_or, take, drop, refl, sym, ap, ◌∙◌, arith, length-drop}
use Rattle.std.specs.Char.{is_ascii_digit, digit_value}
use Rattle.std.specs.List.{list_all}
use Rattle.std.specs.Str.Parse.{digits_value_after, digits_value}
use Rattle.std.proofs.Math.Nat.{mul-le-mul_right, pow-suc, one-le-pow, div-div-eq-div-mul, mul-add-div_right}
use Rattle.std.proofs.lemmas.List.{take_more, drop_more}
use Rattle.std.proofs.lemmas.List.Recursion.{and_at}

-- each of them is a digit
there : (ds : List ℕ) (i : ℕ) → i < length ds → list_all is_ascii_digit ds ≡ true → is_ascii_digit (get_or ds i 0) ≡ true
there ds i within all = and_at (list_all is_ascii_digit) is_ascii_digit refl (λ _ _. refl) ds i 0 within all

-- ---- from the left

after_more : (n : ℕ) (ds : List ℕ) (d : ℕ)
    → digits_value_after 10 n (ds ++ d ∷ []) ≡ digits_value_after 10 n ds * 10 + digit_value d
after_more n [] d = refl
after_more n (c ∷ ds) d = after_more (n * 10 + digit_value c) ds d

value_more : (ds : List ℕ) (i : ℕ) → i < length ds
    → digits_value 10 (take (i + 1) ds) ≡ digits_value 10 (take i ds) * 10 + digit_value (get_or ds i 0)
value_more ds i within = ap (digits_value 10) (take_more ds i 0 within) ∙ after_more 0 (take i ds) (get_or ds i 0)

-- one digit more, capped
pub capped_more : (ds : List ℕ) (i digit value next : ℕ) → i < length ds → list_all is_ascii_digit ds ≡ true
    → (is_ascii_digit (get_or ds i 0) ≡ true → digit ≡ digit_value (get_or ds i 0))
    → value ≡ min (digits_value 10 (take i ds)) (2 ^ 32) → next ≡ min (value * 10 + digit) (2 ^ 32)
    → next ≡ min (digits_value 10 (take (i + 1) ds)) (2 ^ 32)
capped_more ds i digit value next within all told had step =
    let is : digit ≡ digit_value (get_or ds i 0) = told (there ds i within all) in
    let more = value_more ds i within in
    omega (arith, is, more, had, step)

-- ---- from the right

after_is : (n : ℕ) (ds : List ℕ) → digits_value_after 10 n ds ≡ n * 10 ^ length ds + digits_value 10 ds
after_is n [] = omega arith
after_is n (c ∷ ds) =
    let p = 10 ^ length ds in
    let v = digit_value c in
    let pow : 10 ^ suc (length ds) ≡ p * 10 = pow-suc 10 (length ds) in
    let here : digits_value_after 10 (n * 10 + v) ds ≡ (n * 10 + v) * p + digits_value 10 ds = after_is (n * 10 + v) ds in
    let front : digits_value_after 10 (0 * 10 + v) ds ≡ (0 * 10 + v) * p + digits_value 10 ds = after_is (0 * 10 + v) ds in
    rw pow (omega (arith, here, front))

-- a digit before others
value_before : (d : ℕ) (ds : List ℕ) → digits_value 10 (d ∷ ds) ≡ digit_value d * 10 ^ length ds + digits_value 10 ds
value_before d ds = let v = after_is (0 * 10 + digit_value d) ds in omega (arith, v)

-- a part of a quotient, and ten of them
tenth : (a n k : ℕ) → 0 < k → (a + n / k) / 10 ≡ (a * k + n) / (k * 10)
tenth a n k some = sym (sym (div-div-eq-div-mul (a * k + n) k 10) ∙ ap (λ (x : ℕ). x / 10) (mul-add-div_right some a n))

-- one digit more, from the right
pub part_more : (ds : List ℕ) (i most digit part next : ℕ) → i < length ds → list_all is_ascii_digit ds ≡ true
    → (is_ascii_digit (get_or ds (length ds - 1 - i) 0) ≡ true → digit ≡ digit_value (get_or ds (length ds - 1 - i) 0))
    → part ≡ most * digits_value 10 (drop (length ds - i) ds) / 10 ^ i → next ≡ (digit * most + part) / 10
    → next ≡ most * digits_value 10 (drop (length ds - (i + 1)) ds) / 10 ^ (i + 1)
part_more ds i most digit part next within all told had step =
    let place = length ds - 1 - i in
    let below : place < length ds = omega arith in
    let is : digit ≡ digit_value (get_or ds place 0) = told (there ds place below all) in
    let rest = drop (length ds - i) ds in
    let n = digits_value 10 rest in
    let count : length rest ≡ i = omega (arith, length-drop (length ds - i) ds) in
    let at : length ds - (i + 1) ≡ place = omega arith in
    let follows : place + 1 ≡ length ds - i = omega arith in
    let split : drop (length ds - (i + 1)) ds ≡ get_or ds place 0 ∷ rest =
    ap (λ (k : ℕ). drop k ds) at ∙ drop_more ds place 0 below ∙ ap (λ (k : ℕ). get_or ds place 0 ∷ drop k ds) follows in
    let value : digits_value 10 (drop (length ds - (i + 1)) ds) ≡ digit * 10 ^ i + n =
    ap (digits_value 10) split ∙ value_before (get_or ds place 0) rest
    ∙ ap (λ (d : ℕ). d * 10 ^ length rest + n) (sym is) ∙ ap (λ (k : ℕ). digit * 10 ^ k + n) count in
    let one : i + 1 ≡ suc i = omega arith in
    let pow : 10 ^ (i + 1) ≡ 10 ^ i * 10 = ap (λ (k : ℕ). 10 ^ k) one ∙ pow-suc 10 i in
    let some : 0 < 10 ^ i = one-le-pow i 10 (omega arith) in
    let product : most * (digit * 10 ^ i + n) ≡ digit * most * 10 ^ i + most * n = omega arith in
    step ∙ ap (λ (x : ℕ). (digit * most + x) / 10) had ∙ tenth (digit * most) (most * n) (10 ^ i) some
    ∙ (λ j. sym product j / sym pow j) ∙ ap (λ (x : ℕ). most * x / 10 ^ (i + 1)) (sym value)

-- a digit's share more is not over the whole
pub share_more : (most digit part : ℕ) → digit < 10 → part ≤ most → (digit * most + part) / 10 ≤ most
share_more most digit part small within =
    let times : digit * most ≤ 9 * most = mul-le-mul_right most (omega arith) in
    omega (arith, times)

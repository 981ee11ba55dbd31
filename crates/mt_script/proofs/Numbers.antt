-- Numbers and their spellings.
use Rattle.std.proofs.Common.{◌≡◌, ℕ, ◌<◌, ◌≤◌, ◌^◌, List, Some, None, true, nat_lt, sym, ap, ◌∙◌, arith, Result, Ok}
use Rattle.std.specs.Fmt.{decimal}
use Rattle.std.specs.Str.{bytes_eq}
use Rattle.std.specs.Str.Parse.{digits_value, ParsesUnsigned}
use Rattle.std.proofs.lemmas.Slice.Eq.{bytes_eq-Decides}
use Rattle.std.proofs.lemmas.Fmt.{decimal_is_IsNumeral, parse-decimal}
use Rattle.mt_script.specs.Words.{number_below, number}
use Rattle.mt_script.specs.Laws.{NumbersAreSpelled}
use Rattle.mt_script.proofs.Options.{passed, nothing}

-- a spelling of a number below the limit is read as that number
pub spelled : (limit n : ℕ) (text : List ℕ) → n < limit → n < 2 ^ 64 → text ≡ decimal n → number_below limit text ≡ Some n
unfolding number_below
spelled limit n text small fits is =
    let value : digits_value 10 text ≡ n = ap (digits_value 10) is ∙ (decimal_is_IsNumeral n fits).1 in
    let under : nat_lt n limit ≡ true = grind arith in
    let same : bytes_eq text (decimal n) ≡ true = (bytes_eq-Decides text (decimal n)).1 is in
    rw (value, under, same)

-- what is read is a number below the limit, spelled so
pub read_so : (limit n : ℕ) (text : List ℕ) → number_below limit text ≡ Some n → (n < limit) × (text ≡ decimal n)
unfolding number_below
read_so limit n text is =
    let tests = passed (nat_lt (digits_value 10 text) limit) (bytes_eq text (decimal (digits_value 10 text))) (digits_value 10 text) n is in
    let small : nat_lt (digits_value 10 text) limit ≡ true = tests.0 in
    let value : digits_value 10 text ≡ n = tests.2 in
    let same : text ≡ decimal (digits_value 10 text) = (bytes_eq-Decides text (decimal (digits_value 10 text))).0 tests.1 in
    (grind arith, same ∙ ap decimal value)

-- a text that spells no number below the limit says none
pub not_spelled : (limit : ℕ) (text : List ℕ) → ((n : ℕ) → n < limit → text ≡ decimal n → ⊥) → None ≡ number_below limit text
not_spelled limit text never = sym (nothing (number_below limit text) (λ n is. let read = read_so limit n text is in never n read.0 read.1))

-- what was parsed is the number that is spelled, if one is
pub parsed_number : {E : Type 0} (n : ℕ) (text : List ℕ) (r : Result ℕ E) → n < 2 ^ 32 → text ≡ decimal n → ParsesUnsigned 32 10 text r → r ≡ Ok n
parsed_number n text r small is parses = parse-decimal 32 n text r small (omega (arith, small)) is parses

-- below a lower limit
pub below_none : (limit : ℕ) (text : List ℕ) → limit ≤ 2 ^ 32 → number text ≡ None → None ≡ number_below limit text
below_none limit text low none = not_spelled limit text (λ n small is. let more = spelled (2 ^ 32) n text (omega (arith, low, small)) (omega (arith, low, small)) is in absurd cc)

pub below_some : (limit : ℕ) (text : List ℕ) (n : ℕ) → number text ≡ Some n → n < limit → limit ≤ 2 ^ 32 → Some n ≡ number_below limit text
below_some limit text n is small low = sym (spelled limit n text small (omega (arith, small, low)) (read_so (2 ^ 32) n text is).1)

pub below_not : (limit : ℕ) (text : List ℕ) (n : ℕ) → number text ≡ Some n → limit ≤ n → limit ≤ 2 ^ 32 → None ≡ number_below limit text
below_not limit text n is large low = not_spelled limit text (λ m small so.
    let more = spelled (2 ^ 32) m text (omega (arith, small, low)) (omega (arith, small, low)) so in
    let same : m ≡ n = cc in
    absurd (omega arith))

pub numbers_are_spelled : NumbersAreSpelled
numbers_are_spelled limit n text low = (read_so limit n text, λ is. spelled limit n text is.0 (omega (arith, is.0, low)) is.1)

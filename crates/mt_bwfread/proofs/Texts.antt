-- Where a text ends.
use Rattle.std.proofs.Common.{◌≡◌, ℕ, ◌≤◌, Bool, true, false, cond, List, length, take, Some, None, refl, sym, ap}
use Rattle.std.specs.Prelude.{◌==◌, nat_lt, position}
use Rattle.std.specs.List.{position_or_len}
use Rattle.std.proofs.lemmas.Bool.{ltb-false}
use Rattle.std.proofs.lemmas.List.{take_all}
use Rattle.mt_bwfread.specs.Extension.{text_of}

place_is : (b : Bool) (n m : ℕ) → Some n ≡ cond b (Some m) None → n ≡ m
place_is true n m found = cc
place_is false n m found = absurd cc

none_is : (b : Bool) (m : ℕ) → None ≡ cond b (Some m) None → b ≡ false
none_is true m none = absurd cc
none_is false m none = refl

pub text_ends : (field : List ℕ) (n : ℕ) → Some n ≡ position (λ b. b == 0) field → take n field ≡ text_of field
unfolding text_of
text_ends field n found =
    ap (λ (k : ℕ). take k field) (place_is (nat_lt (position_or_len (λ b. b == 0) field) (length field)) n (position_or_len (λ b. b == 0) field) found)

pub text_goes_on : (field : List ℕ) → None ≡ position (λ b. b == 0) field → field ≡ text_of field
unfolding text_of
text_goes_on field none =
    let past : length field ≤ position_or_len (λ b. b == 0) field = ltb-false (position_or_len (λ b. b == 0) field) (length field) (none_is (nat_lt (position_or_len (λ b. b == 0) field) (length field)) (position_or_len (λ b. b == 0) field) none) in
    sym (take_all (position_or_len (λ b. b == 0) field) field past)

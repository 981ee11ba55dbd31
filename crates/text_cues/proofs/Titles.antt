-- Whatever the bytes of a label are, a title is made of them.
use Rattle.std.proofs.Common.{◌≡◌, ℕ, zero, suc, ◌+◌, ◌/◌, ◌%◌, ◌<◌, ◌≤◌, Bool, true, false, ◌&&◌}
use Rattle.std.proofs.Common.{◌==◌, nat_le, if◌then◌else◌}
use Rattle.std.proofs.Common.{List, [], ◌∷◌, ◌++◌, length, get_or, take, drop, min}
use Rattle.std.proofs.Common.{refl, sym, ap, ◌∙◌, arith}
use Rattle.std.specs.Prelude.{slice_index}
use Rattle.std.specs.List.{AllByRecursion, list_all}
use Rattle.std.specs.Str.{IsUtf8, is_utf8, chars}
use Rattle.std.specs.Str.Lossy.{valid_len_up_to, utf8_valid_len}
use Rattle.std.proofs.lemmas.Bool.{and_parts}
use Rattle.std.proofs.lemmas.List.{take_all, take-take, take_min, length-take}
use Rattle.std.proofs.lemmas.Str.{IsUtf8-from_is_utf8, utf8_valid_len_le, utf8_valid_len-IsUtf8}
use Rattle.hex.specs.Hex.{lower_digits, encode_with}
use Rattle.mt_op.specs.Title.{is_plain}
use Rattle.text_cues.specs.Title.{escaped, kept_byte, kept, shown_within, shown, cut_short}
use Rattle.text_cues.specs.Laws.{LabelsBecomeTitles, TitlesStay}
use Rattle.text_cues.proofs.Showing.{shown_last}

both : (a b : Bool) → a ≡ true → b ≡ true → (a && b) ≡ true
both true true p q = refl
both true false p q = q
both false b p q = p

-- ---- fronts that are UTF-8

valid_front : (bs : List ℕ) (n : ℕ) → is_utf8 (take (valid_len_up_to bs n) bs) ≡ true
unfolding is_utf8 chars
valid_front bs zero = refl
valid_front bs (suc n) = by (is_utf8 (take (suc n) bs)) refl (valid_front bs n)
  where
    by : (b : Bool) → is_utf8 (take (suc n) bs) ≡ b → is_utf8 (take (valid_len_up_to bs n) bs) ≡ true
        → is_utf8 (take (if b then suc n else valid_len_up_to bs n) bs) ≡ true
    by true is rest = is
    by false is rest = rest

pub front_is_utf8 : (bs : List ℕ) → is_utf8 (take (utf8_valid_len bs) bs) ≡ true
unfolding utf8_valid_len
front_is_utf8 bs = valid_front bs (length bs)

cut_is_utf8 : (text : List ℕ) → is_utf8 (cut_short text) ≡ true
unfolding cut_short
cut_is_utf8 text =
    let n = utf8_valid_len (take 255 text) in
    let few : n ≤ 255 = omega (arith, utf8_valid_len_le (take 255 text), length-take 255 text) in
    ap is_utf8 (sym (take-take n 255 text few)) ∙ front_is_utf8 (take 255 text)

cut_is_short : (text : List ℕ) → nat_le (length (cut_short text)) 255 ≡ true
unfolding cut_short
cut_is_short text =
    let n = utf8_valid_len (take 255 text) in
    let few : length (take n text) ≤ 255 =
    omega (arith, utf8_valid_len_le (take 255 text), length-take 255 text, length-take n text) in
    grind (arith, few)

-- ---- plain bytes

each_below : (ℕ → Bool) → ℕ → Bool
each_below test zero = true
each_below test (suc n) = test n && each_below test n

below_at : (test : ℕ → Bool) (n : ℕ) → each_below test n ≡ true → (i : ℕ) → i < n → test i ≡ true
unfolding each_below
below_at test zero all i less = absurd (omega arith)
below_at test (suc n) all i less =
    let parts = and_parts (test n) (each_below test n) all in
    by (i == n) refl (λ below. below_at test n parts.1 i below) parts.0
  where
    by : (b : Bool) → (i == n) ≡ b → (i < n → test i ≡ true) → test n ≡ true → test i ≡ true
    by true same lower last = let is : i ≡ n = grind arith in ap test is ∙ last
    by false other lower last = lower (grind arith)

plain_digits : each_below (λ d. is_plain (slice_index lower_digits d)) 16 ≡ true
unfolding each_below
plain_digits = refl

plain_digit : (d : ℕ) → d < 16 → is_plain (slice_index lower_digits d) ≡ true
plain_digit d small = below_at (λ d. is_plain (slice_index lower_digits d)) 16 plain_digits d small

all_append : (xs ys : List ℕ) → list_all is_plain xs ≡ true → list_all is_plain ys ≡ true
    → list_all is_plain (xs ++ ys) ≡ true
all_append [] ys p q = q
all_append (x ∷ xs) ys p q =
    let parts = and_parts (is_plain x) (list_all is_plain xs) p in
    both (is_plain x) (list_all is_plain (xs ++ ys)) parts.0 (all_append xs ys parts.1 q)

all_taken : (n : ℕ) (xs : List ℕ) → list_all is_plain xs ≡ true → list_all is_plain (take n xs) ≡ true
all_taken zero xs p = refl
all_taken (suc n) [] p = refl
all_taken (suc n) (x ∷ xs) p =
    let parts = and_parts (is_plain x) (list_all is_plain xs) p in
    both (is_plain x) (list_all is_plain (take n xs)) parts.0 (all_taken n xs parts.1)

escaped_plain : (b : ℕ) → b < 256 → list_all is_plain (escaped b) ≡ true
unfolding escaped encode_with
escaped_plain b small =
    both (is_plain (slice_index lower_digits (b / 16))) (is_plain (slice_index lower_digits (b % 16)) && true)
    (plain_digit (b / 16) (omega arith))
    (both (is_plain (slice_index lower_digits (b % 16))) true (plain_digit (b % 16) (omega arith)) refl)

kept_plain : (b : ℕ) → b < 256 → list_all is_plain (kept_byte b) ≡ true
unfolding kept_byte
kept_plain b small = by (is_plain b) refl
  where
    by : (t : Bool) → is_plain b ≡ t → list_all is_plain (if t then b ∷ [] else escaped b) ≡ true
    by true is = both (is_plain b) true is refl
    by false is = escaped_plain b small

abbrev AreBytes : List ℕ → Type 0
AreBytes bs = AllByRecursion (λ b. b < 256) bs

all_kept : (bs : List ℕ) → AreBytes bs → list_all is_plain (kept bs) ≡ true
all_kept [] are = refl
all_kept (b ∷ bs) are = all_append (kept_byte b) (kept bs) (kept_plain b are.0) (all_kept bs are.1)

bytes_taken : (n : ℕ) (bs : List ℕ) → AreBytes bs → AreBytes (take n bs)
bytes_taken zero bs are = tt
bytes_taken (suc n) [] are = tt
bytes_taken (suc n) (b ∷ bs) are = (are.0, bytes_taken n bs are.1)

bytes_dropped : (n : ℕ) (bs : List ℕ) → AreBytes bs → AreBytes (drop n bs)
bytes_dropped zero bs are = are
bytes_dropped (suc n) [] are = tt
bytes_dropped (suc n) (b ∷ bs) are = bytes_dropped n bs are.1

byte_at : (bs : List ℕ) (i : ℕ) → AreBytes bs → get_or bs i 0 < 256
byte_at [] i are = omega arith
byte_at (b ∷ bs) zero are = are.0
byte_at (b ∷ bs) (suc i) are = byte_at bs i are.1

within_plain : (k : ℕ) (bs : List ℕ) → AreBytes bs → list_all is_plain (shown_within k bs) ≡ true
within_plain zero bs are = all_kept bs are
within_plain (suc k) bs are =
    by (utf8_valid_len bs == length bs) (within_plain k (drop (utf8_valid_len bs + 1) bs) (bytes_dropped (utf8_valid_len bs + 1) bs are))
  where
    by : (t : Bool) → list_all is_plain (shown_within k (drop (utf8_valid_len bs + 1) bs)) ≡ true
        → list_all is_plain (if t then kept bs
        else kept (take (utf8_valid_len bs) bs) ++ (escaped (get_or bs (utf8_valid_len bs) 0) ++ shown_within k (drop (utf8_valid_len bs + 1) bs))) ≡ true
    by true rest = all_kept bs are
    by false rest =
        all_append (kept (take (utf8_valid_len bs) bs)) (escaped (get_or bs (utf8_valid_len bs) 0) ++ shown_within k (drop (utf8_valid_len bs + 1) bs))
        (all_kept (take (utf8_valid_len bs) bs) (bytes_taken (utf8_valid_len bs) bs are))
        (all_append (escaped (get_or bs (utf8_valid_len bs) 0)) (shown_within k (drop (utf8_valid_len bs + 1) bs))
        (escaped_plain (get_or bs (utf8_valid_len bs) 0) (byte_at bs (utf8_valid_len bs) are)) rest)

cut_is_plain : (label : List ℕ) → AreBytes label → list_all is_plain (cut_short (shown label)) ≡ true
unfolding cut_short shown
cut_is_plain label are =
    all_taken (utf8_valid_len (take 255 (shown_within (length label) label))) (shown_within (length label) label)
    (within_plain (length label) label are)

pub labels_become_titles : LabelsBecomeTitles
labels_become_titles label are =
    let text = shown label in
    both (is_utf8 (cut_short text)) (nat_le (length (cut_short text)) 255 && list_all is_plain (cut_short text)) (cut_is_utf8 text)
    (both (nat_le (length (cut_short text)) 255) (list_all is_plain (cut_short text)) (cut_is_short text) (cut_is_plain label are))

-- ---- titles stay

plain_stays : (b : ℕ) → is_plain b ≡ true → kept_byte b ≡ b ∷ []
unfolding kept_byte
plain_stays b is = rw is

kept_stays : (bs : List ℕ) → list_all is_plain bs ≡ true → kept bs ≡ bs
kept_stays [] all = refl
kept_stays (b ∷ bs) all =
    let parts = and_parts (is_plain b) (list_all is_plain bs) all in
    λ i. plain_stays b parts.0 i ++ kept_stays bs parts.1 i

short_stays : (text : List ℕ) → IsUtf8 text → length text ≤ 255 → cut_short text ≡ text
unfolding cut_short
short_stays text is few =
    let whole : take 255 text ≡ text = take_all 255 text few in
    ap (λ (t : List ℕ). take (utf8_valid_len t) text) whole
    ∙ ap (λ (n : ℕ). take n text) (utf8_valid_len-IsUtf8 text is) ∙ take_all (length text) text (omega arith)

pub titles_stay : TitlesStay
titles_stay title is =
    let parts = and_parts (is_utf8 title) (nat_le (length title) 255 && list_all is_plain title) is in
    let rest = and_parts (nat_le (length title) 255) (list_all is_plain title) parts.1 in
    let utf8 : IsUtf8 title = IsUtf8-from_is_utf8 title parts.0 in
    let few : length title ≤ 255 = let passed = rest.0 in grind arith in
    let same : shown title ≡ title = shown_last title (utf8_valid_len-IsUtf8 title utf8) ∙ kept_stays title rest.1 in
    ap cut_short same ∙ short_stays title utf8 few

-- the longest front that is UTF-8, of as much as there is of 255 bytes
pub cut_at : (text : List ℕ) (n m : ℕ) → m ≡ min (length text) 255 → n ≡ utf8_valid_len (take m text)
    → take n text ≡ cut_short text
unfolding cut_short
cut_at text n m is_m is_n =
    let least : m ≡ min 255 (length text) = omega (arith, is_m) in
    let same : take m text ≡ take 255 text = ap (λ (k : ℕ). take k text) least ∙ take_min 255 text in
    ap (λ (k : ℕ). take k text) (is_n ∙ ap utf8_valid_len same)

-- Words that logs write: each byte of theirs is a visible character of ASCII, so no space and no newline stands in them.
use Rattle.std.proofs.Common.{◌≡◌, ◌≢◌, ℕ, zero, suc, ◌<◌, ◌^◌, Bool, true, false, ◌&&◌, ◌==◌, nat_lt, nat_le, if◌then◌else◌, List, [], ◌∷◌, ◌++◌, length, get_or, sym, subst, arith}
use Rattle.std.specs.Fmt.{decimal}
use Rattle.std.specs.List.{AllByRecursion, list_all}
use Rattle.std.specs.Str.{IsAscii, IsUtf8, is_utf8}
use Rattle.std.proofs.lemmas.Bool.{and_parts}
use Rattle.std.proofs.lemmas.Bool.Decides.{nat_tests}
use Rattle.std.proofs.lemmas.Fmt.{decimal_is_IsNumeral}
use Rattle.std.proofs.lemmas.Str.{IsUtf8-append, IsUtf8-from_ascii, IsUtf8-from_is_utf8}
use Rattle.std.proofs.lemmas.Str.Parse.{digit_at}
use Rattle.hex.specs.Hex.{is_hex_digit}
use Rattle.hex.proofs.HexLemmas.{decode_sized-encode_lower}
use Rattle.uuid.specs.Text.{by_index, hex_digit, hyphen, is_hyphen_place, nibble, digit_place, lower}
use Rattle.uuid.proofs.TextLemmas.{by_index_at, by_index_length, nibble_small}
use Rattle.mt_stamp.specs.declared.name.Replica.{Replica}
use Rattle.mt_stamp.specs.StampOrder.{Stamp, IsStamp}
use Rattle.mt_stamp.specs.Texts.{point, replica_bytes, replica_text, stamp_text}
use Rattle.mt_op.specs.declared.digest.Digest.{Digest}
use Rattle.mt_op.specs.Digest.{IsDigest, digest_text, is_digest_text}
use Rattle.mt_op.specs.Title.{is_plain, is_title}
use Rattle.mt_op.proofs.Digests.{text-decoded}
use Rattle.base_text.specs.Cutting.{newline}
use Rattle.mt_script.specs.Laws.{IsOneLine}

abbrev pub IsInk : ℕ → Type 0
IsInk b = (32 < b) × (b < 127)

abbrev pub IsWord : List ℕ → Type 0
IsWord bs = AllByRecursion IsInk bs

pub ink_at : (bs : List ℕ) → IsWord bs → (i : ℕ) → i < length bs → IsInk (get_or bs i 0)
ink_at [] word i within = absurd (omega arith)
ink_at (b ∷ bs) word zero within = word.0
ink_at (b ∷ bs) word (suc i) within = ink_at bs word.1 i (omega arith)

word_from : (bs : List ℕ) → ((i : ℕ) → i < length bs → IsInk (get_or bs i 0)) → IsWord bs
word_from [] each = tt
word_from (b ∷ bs) each = (each 0 (omega arith), word_from bs (λ i within. each (suc i) (omega arith)))

pub no_space : (bs : List ℕ) → IsWord bs → (i : ℕ) → i < length bs → get_or bs i 0 ≢ 32
no_space bs word i within is = let ink = ink_at bs word i within in omega arith

word_append : (front rest : List ℕ) → IsWord front → IsWord rest → IsWord (front ++ rest)
word_append [] rest word more = more
word_append (b ∷ front) rest word more = (word.0, word_append front rest word.1 more)

pub word_rest : (front rest : List ℕ) → IsWord (front ++ rest) → IsWord rest
word_rest [] rest word = word
word_rest (b ∷ front) rest word = word_rest front rest word.1

-- ---- the words

pub decimal_word : (n : ℕ) → n < 2 ^ 64 → IsWord (decimal n)
decimal_word n fits =
    word_from (decimal n) (λ i within. let digit = digit_at (decimal n) i (decimal_is_IsNumeral n fits).0.1 within in (omega arith, omega arith))

digit_ink : (d : ℕ) → d < 16 → IsInk (hex_digit lower d)
digit_ink d small = (grind (arith, nat_tests), grind (arith, nat_tests))

one_ink : (b : Bool) (d : ℕ) → d < 16 → IsInk (if b then hyphen else hex_digit lower d)
one_ink true d small = (omega arith, omega arith)
one_ink false d small = digit_ink d small

replica_word : (r : Replica) → IsWord (replica_text r)
replica_word r =
    let f : ℕ → ℕ = λ k. if is_hyphen_place k then hyphen else hex_digit lower (nibble (replica_bytes r) (digit_place k)) in
    word_from (by_index 36 f) (λ i within.
    let under : i < 36 = omega (arith, by_index_length 36 f, within) in
    subst IsInk (sym (by_index_at 36 f i 0 under)) (one_ink (is_hyphen_place i) _ (nibble_small (replica_bytes r) (digit_place i))))

pub stamp_word_of : (m : Stamp) → IsStamp m → IsWord (stamp_text m)
stamp_word_of m fits =
    let clock_fits : m.clock < 2 ^ 64 = omega (arith, fits.clock_to) in
    let seq_fits : m.seq < 2 ^ 64 = omega (arith, fits.seq_to) in
    let ink : IsInk point = (omega arith, omega arith) in
    word_append (decimal m.clock) (point ∷ (decimal m.seq ++ (point ∷ replica_text m.replica))) (decimal_word m.clock clock_fits)
    (ink, word_append (decimal m.seq) (point ∷ replica_text m.replica) (decimal_word m.seq seq_fits) (ink, replica_word m.replica))

hex_ink : (c : ℕ) → is_hex_digit c ≡ true → IsInk c
hex_ink c is = (grind (arith, nat_tests), grind (arith, nat_tests))

hex_word : (bs : List ℕ) → list_all is_hex_digit bs ≡ true → IsWord bs
hex_word [] all = tt
hex_word (b ∷ bs) all = let parts = and_parts (is_hex_digit b) (list_all is_hex_digit bs) all in (hex_ink b parts.0, hex_word bs parts.1)

pub digest_is_text : (d : Digest) → IsDigest d → is_digest_text (digest_text d) ≡ true
digest_is_text d is = text-decoded (digest_text d) d.0 (decode_sized-encode_lower d.0 32 is.size is.bytes)

pub digest_word : (d : Digest) → IsDigest d → IsWord (digest_text d)
digest_word d is = hex_word (digest_text d) (and_parts (length (digest_text d) == 64) (list_all is_hex_digit (digest_text d)) (digest_is_text d is)).1

-- ---- what may stand in a line

abbrev pub IsInLine : List ℕ → Type 0
IsInLine bs = IsUtf8 bs × IsOneLine bs

word_ascii : (bs : List ℕ) → IsWord bs → IsAscii bs
word_ascii [] word i = omega arith
word_ascii (b ∷ bs) word zero = let ink = word.0 in omega arith
word_ascii (b ∷ bs) word (suc i) = word_ascii bs word.1 i

word_one_line : (bs : List ℕ) → IsWord bs → IsOneLine bs
word_one_line [] word = tt
word_one_line (b ∷ bs) word = ((λ is. let ink = word.0 in omega arith), word_one_line bs word.1)

pub word_in_line : (bs : List ℕ) → IsWord bs → IsInLine bs
word_in_line bs word = (IsUtf8-from_ascii bs (word_ascii bs word), word_one_line bs word)

one_line_append : (front rest : List ℕ) → IsOneLine front → IsOneLine rest → IsOneLine (front ++ rest)
one_line_append [] rest one more = more
one_line_append (b ∷ front) rest one more = (one.0, one_line_append front rest one.1 more)

pub in_line_append : (front rest : List ℕ) → IsInLine front → IsInLine rest → IsInLine (front ++ rest)
in_line_append front rest one more = (IsUtf8-append front rest one.0 more.0, one_line_append front rest one.1 more.1)

space_ascii : IsAscii (32 ∷ [])
space_ascii zero = omega arith
space_ascii (suc i) = omega arith

-- a space, and what follows
pub space_then : (bs : List ℕ) → IsInLine bs → IsInLine (32 ∷ bs)
space_then bs one = in_line_append (32 ∷ []) bs (IsUtf8-from_ascii (32 ∷ []) space_ascii, ((λ is. cc is), tt)) one

plain_one_line : (bs : List ℕ) → list_all is_plain bs ≡ true → IsOneLine bs
plain_one_line [] all = tt
plain_one_line (b ∷ bs) all =
    let parts = and_parts (is_plain b) (list_all is_plain bs) all in
    ((λ is. let plain : is_plain newline ≡ true = subst (λ (x : ℕ). is_plain x ≡ true) is parts.0 in cc plain), plain_one_line bs parts.1)

-- a word that a script begins with
pub tested : (bs : List ℕ) → list_all (λ b. nat_lt 32 b && nat_lt b 127) bs ≡ true → IsWord bs
tested [] all = tt
tested (b ∷ bs) all =
    let parts = and_parts (nat_lt 32 b && nat_lt b 127) (list_all (λ (x : ℕ). nat_lt 32 x && nat_lt x 127) bs) all in
    let ink = and_parts (nat_lt 32 b) (nat_lt b 127) parts.0 in
    ((grind (arith, ink.0), grind (arith, ink.1)), tested bs parts.1)

pub title_in_line : (title : List ℕ) → is_title title ≡ true → IsInLine title
title_in_line title is =
    let parts = and_parts (is_utf8 title) (nat_le (length title) 255 && list_all is_plain title) is in
    let others = and_parts (nat_le (length title) 255) (list_all is_plain title) parts.1 in
    (IsUtf8-from_is_utf8 title parts.0, plain_one_line title others.1)

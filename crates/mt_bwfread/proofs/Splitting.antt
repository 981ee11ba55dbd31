-- The walk over the chunks is the one way to split the bytes into chunks.
use Rattle.std.proofs.Common.{◌≡◌, ℕ, zero, suc, ◌+◌, ◌%◌, ◌^◌, ◌<◌, ◌≤◌, true, false, List, [], ◌∷◌, ◌++◌, length, take, drop, get_or, refl, sym, ap, subst, ◌∙◌, append_assoc, arith, inl, inr, length-append, length-drop}
use Rattle.std.specs.Int.{w32, from_le_bytes}
use Rattle.std.proofs.lemmas.Bool.{cases_lt, cases_Bool, leb-true, le-leb, lt-leb}
use Rattle.std.proofs.lemmas.List.{take_at, drop_at, drop-drop, take-append-drop, length-take, length-take-le, get_or-take, get_or-drop, get_or_past}
use Rattle.std.proofs.lemmas.Nat.{le_bytes_4}
use Rattle.byteorder.specs.Endian.{little_number, little_bytes}
use Rattle.byteorder.specs.Numbers.{little_from-take, little_from-lt, little_number-reads_back, length-bytes_low_first}
use Rattle.mt_bwfread.specs.Riff.{u32_at, Chunk, chunk_text, Begins, after_pad, Splits, AreChunks, has_chunk, first_chunk, after_chunk, chunks_of, rest_of}
use Rattle.mt_bwfread.proofs.Chunks.{shorter, chunks_step, rest_step, chunks_stop, rest_stop}

abbrev pub IsBytes : List ℕ → Type 0
IsBytes bytes = (i : ℕ) → get_or bytes i 0 < 256

pub IsBytes-drop : (n : ℕ) (bytes : List ℕ) → IsBytes bytes → IsBytes (drop n bytes)
IsBytes-drop n bytes fits i = rw get_or-drop (fits (n + i))

-- ---- what is split so is walked so

-- the four parts of bytes that begin with a chunk
parted : (c : Chunk) (after : List ℕ) → chunk_text c ++ after ≡ c.id ++ (little_bytes 4 (length c.content) ++ (c.content ++ after))
parted c after = simp append_assoc

past_id : (c : Chunk) (after : List ℕ) → length c.id ≡ 4 → drop 4 (chunk_text c ++ after) ≡ little_bytes 4 (length c.content) ++ (c.content ++ after)
past_id c after id = rw (parted c after) (drop_at c.id (little_bytes 4 (length c.content) ++ (c.content ++ after)) 4 id)

past_head : (c : Chunk) (after : List ℕ) → length c.id ≡ 4 → drop 8 (chunk_text c ++ after) ≡ c.content ++ after
past_head c after id =
    let twice : drop 8 (chunk_text c ++ after) ≡ drop 4 (drop 4 (chunk_text c ++ after)) = sym (drop-drop 4 4 (chunk_text c ++ after)) in
    twice ∙ ap (drop 4) (past_id c after id) ∙ drop_at (little_bytes 4 (length c.content)) (c.content ++ after) 4 (length-bytes_low_first 0 4 (length c.content))

size_said : (c : Chunk) (after : List ℕ) → length c.id ≡ 4 → length c.content < 2 ^ 32 → u32_at 4 (chunk_text c ++ after) ≡ length c.content
size_said c after id size =
    ap (little_number 4) (past_id c after id) ∙ little_number-reads_back 4 (length c.content) (c.content ++ after) (omega arith)

pub record IsWalked (bytes : List ℕ) (c : Chunk) (next : List ℕ) : Type 0 where
  whole : has_chunk bytes ≡ true
  first : first_chunk bytes ≡ c
  after : after_chunk bytes ≡ next

text_walked : (c : Chunk) (after : List ℕ) → length c.id ≡ 4 → length c.content < 2 ^ 32 → IsWalked (chunk_text c ++ after) c (after_pad c after)
unfolding has_chunk first_chunk after_chunk
text_walked c after id size =
    let said = size_said c after id size in
    let past = past_head c after id in
    let long : 8 + length c.content ≤ length (chunk_text c ++ after) = omega (arith, length-append (c.id ++ little_bytes 4 (length c.content) ++ c.content) after, length-append (c.id ++ little_bytes 4 (length c.content)) c.content, length-append c.id (little_bytes 4 (length c.content)), length-bytes_low_first 0 4 (length c.content)) in
    let front : take 4 (chunk_text c ++ after) ≡ c.id = rw (parted c after) (take_at c.id (little_bytes 4 (length c.content) ++ (c.content ++ after)) 4 id) in
    let content : take (length c.content) (c.content ++ after) ≡ c.content = take_at c.content after (length c.content) refl in
    let rest : drop (length c.content) (c.content ++ after) ≡ after = drop_at c.content after (length c.content) refl in
    record {
      whole = rw said (le-leb (8 + length c.content) (length (chunk_text c ++ after)) long);
      first = rw (said, past, content, front) refl;
      after = rw (said, past, rest) refl;
    }

begin_walked : (bytes : List ℕ) (c : Chunk) (after : List ℕ) → Begins bytes c after → IsWalked bytes c (after_pad c after)
begin_walked bytes c after begins = subst (λ (b : List ℕ). IsWalked b c (after_pad c after)) (sym begins.text) (text_walked c after begins.id begins.size)

pub walked : (bytes : List ℕ) (cs : List Chunk) (rest : List ℕ) → Splits bytes cs rest → has_chunk rest ≡ false → (chunks_of bytes ≡ cs) × (rest_of bytes ≡ rest)
walked bytes [] rest split over =
    let none : has_chunk bytes ≡ false = rw split over in
    (chunks_stop bytes none, rest_stop bytes none ∙ split)
walked bytes (c ∷ cs) rest split over =
    let step = begin_walked bytes c split.0 split.1.0 in
    let others = walked (after_pad c split.0) cs rest split.1.1 over in
    (chunks_step bytes step.whole ∙ rw (step.first, step.after, others.0) refl, rest_step bytes step.whole ∙ rw step.after others.1)

-- ---- what is walked is split so

pub IsBytes-take : (n : ℕ) (bytes : List ℕ) → IsBytes bytes → IsBytes (take n bytes)
IsBytes-take n bytes fits i =
    elim (cases_lt i n) [
      | inl lt ↦ rw (get_or-take n bytes i 0 lt) (fits i)
      | inr le ↦ rw (get_or_past (take n bytes) i 0 (omega (arith, length-take n bytes))) (omega arith)
    ]

four_bytes : (bytes : List ℕ) → IsBytes bytes → 4 ≤ length bytes → little_bytes 4 (little_number 4 bytes) ≡ take 4 bytes
four_bytes bytes fits long =
    let same : little_number 4 (take 4 bytes) ≡ little_number 4 bytes = little_from-take 0 4 4 bytes (omega arith) in
    let read : little_number 4 bytes ≡ from_le_bytes w32 (take 4 bytes) = omega (arith, same) in
    le_bytes_4 (take 4 bytes) (little_number 4 bytes) (length-take-le 4 bytes long) (IsBytes-take 4 bytes fits) read

-- the front of the bytes, the four bytes of the size, the content and the rest are all of the bytes
whole_again : (bytes : List ℕ) (n : ℕ) → ((take 4 bytes ++ take 4 (drop 4 bytes)) ++ take n (drop 8 bytes)) ++ drop n (drop 8 bytes) ≡ bytes
whole_again bytes n =
    let twice : drop 8 bytes ≡ drop 4 (drop 4 bytes) = sym (drop-drop 4 4 bytes) in
    let one : ((take 4 bytes ++ take 4 (drop 4 bytes)) ++ take n (drop 8 bytes)) ++ drop n (drop 8 bytes) ≡ take 4 bytes ++ (take 4 (drop 4 bytes) ++ (take n (drop 8 bytes) ++ drop n (drop 8 bytes))) = simp append_assoc in
    one ∙ rw (take-append-drop n (drop 8 bytes), twice, take-append-drop 4 (drop 4 bytes)) (take-append-drop 4 bytes)

pub begins_first : (bytes : List ℕ) → IsBytes bytes → has_chunk bytes ≡ true → Begins bytes (first_chunk bytes) (drop (u32_at 4 bytes) (drop 8 bytes))
unfolding has_chunk first_chunk
begins_first bytes fits whole =
    let size = leb-true (8 + u32_at 4 bytes) (length bytes) whole in
    let len : length (take (u32_at 4 bytes) (drop 8 bytes)) ≡ u32_at 4 bytes = length-take-le (u32_at 4 bytes) (drop 8 bytes) (omega (arith, length-drop 8 bytes)) in
    let below : u32_at 4 bytes < 256 ^ 4 = little_from-lt 0 4 (drop 4 bytes) (IsBytes-drop 4 bytes fits) in
    let head : little_bytes 4 (u32_at 4 bytes) ≡ take 4 (drop 4 bytes) = four_bytes (drop 4 bytes) (IsBytes-drop 4 bytes fits) (omega (arith, length-drop 4 bytes)) in
    record {
      id = length-take-le 4 bytes (omega arith);
      size = omega arith;
      text = rw (len, head) (sym (whole_again bytes (u32_at 4 bytes)));
    }

after_first : (bytes : List ℕ) → has_chunk bytes ≡ true → after_pad (first_chunk bytes) (drop (u32_at 4 bytes) (drop 8 bytes)) ≡ after_chunk bytes
unfolding has_chunk first_chunk after_chunk
after_first bytes whole =
    let size = leb-true (8 + u32_at 4 bytes) (length bytes) whole in
    let len : length (take (u32_at 4 bytes) (drop 8 bytes)) ≡ u32_at 4 bytes = length-take-le (u32_at 4 bytes) (drop 8 bytes) (omega (arith, length-drop 8 bytes)) in
    rw len refl

IsBytes-after : (bytes : List ℕ) → IsBytes bytes → IsBytes (after_chunk bytes)
unfolding after_chunk
IsBytes-after bytes fits = IsBytes-drop (u32_at 4 bytes % 2) (drop (u32_at 4 bytes) (drop 8 bytes)) (IsBytes-drop (u32_at 4 bytes) (drop 8 bytes) (IsBytes-drop 8 bytes fits))

-- a split, and no whole chunk in the rest
abbrev pub SplitsWhole : List ℕ → List Chunk → List ℕ → Type 0
SplitsWhole bytes cs rest = Splits bytes cs rest × (has_chunk rest ≡ false)

splits_stop : (bytes : List ℕ) → has_chunk bytes ≡ false → SplitsWhole bytes (chunks_of bytes) (rest_of bytes)
splits_stop bytes none = rw (chunks_stop bytes none, rest_stop bytes none) (refl, none)

splits_step : (bytes : List ℕ) → IsBytes bytes → has_chunk bytes ≡ true → SplitsWhole (after_chunk bytes) (chunks_of (after_chunk bytes)) (rest_of (after_chunk bytes)) → SplitsWhole bytes (chunks_of bytes) (rest_of bytes)
splits_step bytes fits whole others =
    let after = drop (u32_at 4 bytes) (drop 8 bytes) in
    rw (chunks_step bytes whole, rest_step bytes whole) ((after, (begins_first bytes fits whole, rw (after_first bytes whole) others.0)), others.1)

splits_by : (k : ℕ) (bytes : List ℕ) → length bytes ≤ k → IsBytes bytes → SplitsWhole bytes (chunks_of bytes) (rest_of bytes)
splits_by zero bytes few fits =
    elim (cases_Bool (has_chunk bytes)) [
      | inl whole ↦ let less = shorter bytes whole in absurd (omega arith)
      | inr none ↦ splits_stop bytes none
    ]
splits_by (suc k) bytes few fits =
    elim (cases_Bool (has_chunk bytes)) [
      | inl whole ↦
          let less = shorter bytes whole in
          splits_step bytes fits whole (splits_by k (after_chunk bytes) (omega arith) (IsBytes-after bytes fits))
      | inr none ↦ splits_stop bytes none
    ]

pub splits : (bytes : List ℕ) → IsBytes bytes → SplitsWhole bytes (chunks_of bytes) (rest_of bytes)
splits bytes fits = splits_by (length bytes) bytes (omega arith) fits

-- ---- chunks and a rest of fewer than 8 bytes

short_none : (rest : List ℕ) → length rest < 8 → has_chunk rest ≡ false
unfolding has_chunk
short_none rest short = lt-leb (8 + u32_at 4 rest) (length rest) (omega arith)

pub found : (bytes : List ℕ) (cs : List Chunk) → AreChunks bytes cs → (chunks_of bytes ≡ cs) × (length (rest_of bytes) < 8)
found bytes cs chunks =
    let one = walked bytes cs chunks.0 chunks.1.0 (short_none chunks.0 chunks.1.1) in
    (one.0, rw one.1 chunks.1.1)

pub are_chunks : (bytes : List ℕ) → IsBytes bytes → length (rest_of bytes) < 8 → AreChunks bytes (chunks_of bytes)
are_chunks bytes fits short = (rest_of bytes, ((splits bytes fits).0, short))

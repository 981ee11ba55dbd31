-- Walking the chunks, one step after the other.
use Rattle.std.proofs.Common.{◌≡◌, ℕ, zero, suc, ◌+◌, ◌%◌, ◌≤◌, Bool, true, false, cond, List, [], ◌∷◌, length, drop, refl, ap, arith, length-drop}
use Rattle.std.proofs.lemmas.Bool.{leb-true, lt-leb}
use Rattle.mt_bwfread.specs.Riff.{u32_at, has_chunk, first_chunk, after_chunk, front_chunks, front_rest, chunks_of, rest_of}

-- what stands after a whole chunk is shorter
pub shorter : (bytes : List ℕ) → has_chunk bytes ≡ true → length (after_chunk bytes) + 8 ≤ length bytes
unfolding has_chunk after_chunk
shorter bytes whole =
    let size = leb-true (8 + u32_at 4 bytes) (length bytes) whole in
    omega (arith, size, length-drop (u32_at 4 bytes % 2) (drop (u32_at 4 bytes) (drop 8 bytes)), length-drop (u32_at 4 bytes) (drop 8 bytes), length-drop 8 bytes)

-- no chunk stands in no bytes
none_in_nil : (bytes : List ℕ) → length bytes ≤ 0 → has_chunk bytes ≡ false
unfolding has_chunk
none_in_nil bytes few = lt-leb (8 + u32_at 4 bytes) (length bytes) (omega arith)

same_if : {A : Type 0} (b : Bool) (x y z : A) → (b ≡ true → x ≡ y) → cond b x z ≡ cond b y z
same_if true x y z same = same refl
same_if false x y z same = refl

-- more steps than bytes change nothing
chunks_enough : (j k : ℕ) (bytes : List ℕ) → length bytes ≤ j → length bytes ≤ k → front_chunks j bytes ≡ front_chunks k bytes
unfolding front_chunks
chunks_enough zero zero bytes few few' = refl
chunks_enough zero (suc k) bytes few few' = rw (none_in_nil bytes few) refl
chunks_enough (suc j) zero bytes few few' = rw (none_in_nil bytes few') refl
chunks_enough (suc j) (suc k) bytes few few' =
    same_if (has_chunk bytes) (first_chunk bytes ∷ front_chunks j (after_chunk bytes)) (first_chunk bytes ∷ front_chunks k (after_chunk bytes)) [] (λ whole.
    let less = shorter bytes whole in
    ap (λ cs. first_chunk bytes ∷ cs) (chunks_enough j k (after_chunk bytes) (omega arith) (omega arith)))

rest_enough : (j k : ℕ) (bytes : List ℕ) → length bytes ≤ j → length bytes ≤ k → front_rest j bytes ≡ front_rest k bytes
unfolding front_rest
rest_enough zero zero bytes few few' = refl
rest_enough zero (suc k) bytes few few' = rw (none_in_nil bytes few) refl
rest_enough (suc j) zero bytes few few' = rw (none_in_nil bytes few') refl
rest_enough (suc j) (suc k) bytes few few' =
    same_if (has_chunk bytes) (front_rest j (after_chunk bytes)) (front_rest k (after_chunk bytes)) bytes (λ whole.
    let less = shorter bytes whole in
    rest_enough j k (after_chunk bytes) (omega arith) (omega arith))

-- a whole chunk is the first, and the others stand after it
pub chunks_step : (bytes : List ℕ) → has_chunk bytes ≡ true → chunks_of bytes ≡ first_chunk bytes ∷ chunks_of (after_chunk bytes)
unfolding chunks_of front_chunks
chunks_step bytes whole =
    let less = shorter bytes whole in
    let one : front_chunks (length bytes) bytes ≡ front_chunks (suc (length bytes)) bytes = chunks_enough (length bytes) (suc (length bytes)) bytes (omega arith) (omega arith) in
    rw (one, whole) (ap (λ cs. first_chunk bytes ∷ cs) (chunks_enough (length bytes) (length (after_chunk bytes)) (after_chunk bytes) (omega arith) (omega arith)))

pub rest_step : (bytes : List ℕ) → has_chunk bytes ≡ true → rest_of bytes ≡ rest_of (after_chunk bytes)
unfolding rest_of front_rest
rest_step bytes whole =
    let less = shorter bytes whole in
    let one : front_rest (length bytes) bytes ≡ front_rest (suc (length bytes)) bytes = rest_enough (length bytes) (suc (length bytes)) bytes (omega arith) (omega arith) in
    rw (one, whole) (rest_enough (length bytes) (length (after_chunk bytes)) (after_chunk bytes) (omega arith) (omega arith))

-- where no whole chunk stands, the walk is over
pub chunks_stop : (bytes : List ℕ) → has_chunk bytes ≡ false → chunks_of bytes ≡ []
unfolding chunks_of front_chunks
chunks_stop bytes none =
    let one : front_chunks (length bytes) bytes ≡ front_chunks (suc (length bytes)) bytes = chunks_enough (length bytes) (suc (length bytes)) bytes (omega arith) (omega arith) in
    rw (one, none) refl

pub rest_stop : (bytes : List ℕ) → has_chunk bytes ≡ false → rest_of bytes ≡ bytes
unfolding rest_of front_rest
rest_stop bytes none =
    let one : front_rest (length bytes) bytes ≡ front_rest (suc (length bytes)) bytes = rest_enough (length bytes) (suc (length bytes)) bytes (omega arith) (omega arith) in
    rw (one, none) refl

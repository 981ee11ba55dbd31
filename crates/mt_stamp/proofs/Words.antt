-- The bytes of a number of 128 bits, and back.
use Rattle.std.proofs.Common.{◌≡◌, ℕ, zero, suc, ◌+◌, ◌*◌, ◌/◌, ◌%◌, ◌<◌, ◌^◌, List, [], ◌∷◌, length, get_or, All, refl, sym, ap, ◌∙◌, arith}
use Rattle.std.specs.Int.{w128, from_be_bytes, to_be_bytes, byte_at, bytes_high_first}
use Rattle.std.proofs.Math.Nat as nat
use Rattle.uuid.proofs.OrderLemmas as uuid_order

-- what `to_be_bytes` wrote reads back as the number
pub from_be_bytes-to_be_bytes_16 : (n : ℕ) → n < 2 ^ 128 → from_be_bytes w128 (to_be_bytes w128 n) ≡ n
from_be_bytes-to_be_bytes_16 n fits = uuid_order.from_be_bytes-to_be_bytes_16 n fits

byte_fits : (k n : ℕ) → byte_at k n < 256
byte_fits zero n = omega arith
byte_fits (suc k) n = omega arith

bytes_fit : (k n i d : ℕ) → i < k → get_or (bytes_high_first k n) i d < 256
bytes_fit zero n i d within = absurd (omega arith)
bytes_fit (suc k) n zero d within = byte_fits k n
bytes_fit (suc k) n (suc i) d within = bytes_fit k n i d (omega arith)

-- each byte of a word is below 256
pub to_be_bytes_fit : (n : ℕ) → All (λ b. b < 256) (to_be_bytes w128 n)
to_be_bytes_fit n i d within = bytes_fit 16 n i d within

-- a number read from its bytes, the highest first, after `q`
abbrev read_from : ℕ → List ℕ → ℕ
read_from q [] = q
read_from q (b ∷ bs) = read_from (q * 256 + b) bs

one_byte : (k n q b : ℕ) → b < 256 → n / 256 ^ k ≡ q * 256 + b → (byte_at k n ≡ b) × (n / 256 ^ suc k ≡ q)
one_byte zero n q b small is = (omega arith, omega arith)
one_byte (suc k) n q b small is =
    let here : n / 256 ^ suc k % 256 ≡ b = omega arith in
    let above : n / 256 ^ suc (suc k) ≡ n / 256 ^ suc k / 256 = ap (λ (p : ℕ). n / p) (nat.pow-suc 256 (suc k)) ∙ sym (nat.div-div-eq-div-mul n (256 ^ suc k) 256) in
    (here, omega (arith, above))

-- the bytes of a number that was read are those that it was read from
bytes_back : (bs : List ℕ) (q n : ℕ) → ((i : ℕ) → get_or bs i 0 < 256) → n ≡ read_from q bs → (bytes_high_first (length bs) n ≡ bs) × (n / 256 ^ length bs ≡ q)
bytes_back [] q n small is = (refl, omega arith)
bytes_back (b ∷ bs) q n small is =
    let rest = bytes_back bs (q * 256 + b) n (λ i. small (suc i)) is in
    let here = one_byte (length bs) n q b (small 0) rest.1 in
    (λ i. here.0 i ∷ rest.0 i, here.1)

word_read : (bs : List ℕ) → length bs ≡ 16 → read_from 0 bs ≡ from_be_bytes w128 bs
word_read ([]) long = absurd (omega arith)
word_read (a ∷ []) long = absurd (omega arith)
word_read (a ∷ b ∷ []) long = absurd (omega arith)
word_read (a ∷ b ∷ c ∷ []) long = absurd (omega arith)
word_read (a ∷ b ∷ c ∷ d ∷ []) long = absurd (omega arith)
word_read (a ∷ b ∷ c ∷ d ∷ e ∷ []) long = absurd (omega arith)
word_read (a ∷ b ∷ c ∷ d ∷ e ∷ f ∷ []) long = absurd (omega arith)
word_read (a ∷ b ∷ c ∷ d ∷ e ∷ f ∷ g ∷ []) long = absurd (omega arith)
word_read (a ∷ b ∷ c ∷ d ∷ e ∷ f ∷ g ∷ h ∷ []) long = absurd (omega arith)
word_read (a ∷ b ∷ c ∷ d ∷ e ∷ f ∷ g ∷ h ∷ i ∷ []) long = absurd (omega arith)
word_read (a ∷ b ∷ c ∷ d ∷ e ∷ f ∷ g ∷ h ∷ i ∷ j ∷ []) long = absurd (omega arith)
word_read (a ∷ b ∷ c ∷ d ∷ e ∷ f ∷ g ∷ h ∷ i ∷ j ∷ k ∷ []) long = absurd (omega arith)
word_read (a ∷ b ∷ c ∷ d ∷ e ∷ f ∷ g ∷ h ∷ i ∷ j ∷ k ∷ l ∷ []) long = absurd (omega arith)
word_read (a ∷ b ∷ c ∷ d ∷ e ∷ f ∷ g ∷ h ∷ i ∷ j ∷ k ∷ l ∷ m ∷ []) long = absurd (omega arith)
word_read (a ∷ b ∷ c ∷ d ∷ e ∷ f ∷ g ∷ h ∷ i ∷ j ∷ k ∷ l ∷ m ∷ n ∷ []) long = absurd (omega arith)
word_read (a ∷ b ∷ c ∷ d ∷ e ∷ f ∷ g ∷ h ∷ i ∷ j ∷ k ∷ l ∷ m ∷ n ∷ o ∷ []) long = absurd (omega arith)
word_read (a ∷ b ∷ c ∷ d ∷ e ∷ f ∷ g ∷ h ∷ i ∷ j ∷ k ∷ l ∷ m ∷ n ∷ o ∷ p ∷ []) long = omega arith
word_read (a ∷ b ∷ c ∷ d ∷ e ∷ f ∷ g ∷ h ∷ i ∷ j ∷ k ∷ l ∷ m ∷ n ∷ o ∷ p ∷ q ∷ rest) long = absurd (omega arith)

-- the bytes of a number that was read from sixteen bytes are those bytes
pub be_bytes_16 : (bs : List ℕ) (n : ℕ) → length bs ≡ 16 → ((i : ℕ) → get_or bs i 0 < 256) → n ≡ from_be_bytes w128 bs → to_be_bytes w128 n ≡ bs
be_bytes_16 bs n long small is =
    ap (λ (k : ℕ). bytes_high_first k n) (sym long) ∙ (bytes_back bs 0 n small (is ∙ sym (word_read bs long))).0

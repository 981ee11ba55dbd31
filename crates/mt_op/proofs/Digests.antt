-- Texts of digests: which are read, and what is read of one that was written.
use Rattle.std.proofs.Common.{◌≡◌, ℕ, Bool, true, false, List, [], length, refl, sym, ap, ◌∙◌}
use Rattle.std.specs.Prelude.{◌==◌, Ok, Err, IsOk}
use Rattle.std.specs.Result.{result_unwrap_or}
use Rattle.std.specs.declared.result.Result.{Result}
use Rattle.std.specs.List.{list_all}
use Rattle.std.proofs.lemmas.Bool.{eqb-true, eq-eqb}
use Rattle.std.proofs.lemmas.List.Sums.{AllPass-from_list_all, list_all-from_AllPass}
use Rattle.hex.specs.Hex.{decode_sized, is_hex_digit}
use Rattle.hex.specs.declared.error.FromHexError.{FromHexError}
use Rattle.hex.proofs.HexLemmas.{IsOk-decode_sized, decode_sized-encode_lower}
use Rattle.mt_op.specs.declared.digest.Digest.{Digest}
use Rattle.mt_op.specs.Digest.{digest_text, is_digest_text, IsDigest}

-- what decodes into 32 bytes is a digest's text
pub text-decoded : (s bytes : List ℕ) → decode_sized s 32 ≡ Ok bytes → is_digest_text s ≡ true
text-decoded s bytes h =
    let good = (IsOk-decode_sized s 32).0 (rw h refl) in
    rw (eq-eqb (length s) 64 good.0, list_all-from_AllPass is_hex_digit s good.1) refl

err_not_ok : {T E : Type 0} (r : Result T E) (e : E) → r ≡ Err e → IsOk r → ⊥
err_not_ok (Ok x) e h ok = cc h
err_not_ok (Err f) e h ok = cc ok

-- what does not is none
pub no_text-refused : (s : List ℕ) (e : FromHexError) → decode_sized s 32 ≡ Err e → is_digest_text s ≡ false
no_text-refused s e h = by (length s == 64) (list_all is_hex_digit s) refl refl
  where
    by : (a b : Bool) → (length s == 64) ≡ a → list_all is_hex_digit s ≡ b → is_digest_text s ≡ false
    by false b ea eb = rw ea refl
    by true false ea eb = rw (ea, eb) refl
    by true true ea eb = elim (err_not_ok (decode_sized s 32) e h ((IsOk-decode_sized s 32).1 (eqb-true (length s) 64 ea, AllPass-from_list_all is_hex_digit s eb))) [ ]

-- the text of a digest decodes to its bytes
written-read : (d : Digest) → IsDigest d → decode_sized (digest_text d) 32 ≡ Ok d.0
written-read d is = decode_sized-encode_lower d.0 32 is.size is.bytes

-- so it is read as that digest
pub read-again : (s bytes : List ℕ) (d : Digest) → decode_sized s 32 ≡ Ok bytes → IsDigest d → s ≡ digest_text d → (record { 0 = bytes }) ≡ d
read-again s bytes d read is text =
    let same : bytes ≡ d.0 = ap (λ (r : Result (List ℕ) FromHexError). result_unwrap_or r []) (sym read ∙ ap (λ (t : List ℕ). decode_sized t 32) text ∙ written-read d is) in
    ap (λ (b : List ℕ). record { 0 = b }) same

-- and is not refused
pub never_refused : (s : List ℕ) (e : FromHexError) (d : Digest) → decode_sized s 32 ≡ Err e → IsDigest d → s ≡ digest_text d → ⊥
never_refused s e d read is text = err_not_ok (decode_sized s 32) e read (rw (text, written-read d is) refl)

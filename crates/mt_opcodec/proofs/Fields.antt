-- A field that is read is spelled as it is written, and a field that is spelled so is read.
use Rattle.std.proofs.Common.{◌≡◌, ℕ, suc, ◌+◌, ◌^◌, ◌<◌, ◌≤◌, Bool, true, false, cond, ltb, leb, eqb, List, [], ◌∷◌, ◌++◌, length, get_or, take, drop, Result, Ok, Err, refl, sym, ap, subst, ◌∙◌, append_assoc, arith, inl, inr}
use Rattle.std.specs.Prelude.{IsTrue}
use Rattle.std.specs.Int.{Width, w16, w32, w64, w128, byte_len, from_be_bytes, to_be_bytes}
use Rattle.std.specs.Str.{IsUtf8, is_utf8}
use Rattle.std.proofs.lemmas.Bool.{cases_lt, ltb-false, le-ltb, le-leb, leb-true, eqb-true, eqb-false, ne_eqb}
use Rattle.std.proofs.lemmas.List.{take_at, drop_at, take-append-drop, length-append, length-take, get_or-drop, get_or-take, get_or_past}
use Rattle.std.proofs.lemmas.Nat.{be_bytes_2, be_bytes_4, be_bytes_8, from_be_bytes-to_be_bytes_2, from_be_bytes-to_be_bytes_4, from_be_bytes-to_be_bytes_8}
use Rattle.std.proofs.lemmas.Str.{IsUtf8-from_is_utf8}
use Rattle.mt_stamp.proofs.Words.{be_bytes_16, from_be_bytes-to_be_bytes_16}
use Rattle.mt_op.specs.Title.{is_title}
use Rattle.mt_op.specs.declared.digest.Digest.{Digest}
use Rattle.mt_op.specs.Digest.{IsDigest}
use Rattle.mt_opcodec.specs.declared.fault.ReadFault.{ReadFault}
use Rattle.mt_opcodec.specs.declared.fault.ReadFault.TheVariants.{Truncated, BadField}
use Rattle.mt_opcodec.specs.OpText.{flag_bytes, title_bytes}
use Rattle.mt_opcodec.specs.OpReading.{◌>>=◌, number_at, positive_at, flag_at, title_of_bytes, title_at, digest_at}

abbrev pub IsBytes : List ℕ → Type 0
IsBytes bytes = (i : ℕ) → get_or bytes i 0 < 256

pub IsBytes-drop : (n : ℕ) (bytes : List ℕ) → IsBytes bytes → IsBytes (drop n bytes)
IsBytes-drop n bytes h i = rw get_or-drop (h (n + i))

pub IsBytes-take : (n : ℕ) (bytes : List ℕ) → IsBytes bytes → IsBytes (take n bytes)
IsBytes-take n bytes h i =
    elim (cases_lt i n) [
      | inl lt ↦ rw (get_or-take n bytes i 0 lt) (h i)
      | inr le ↦ rw (get_or_past (take n bytes) i 0 (omega (arith, length-take n bytes))) (omega arith)
    ]

pub IsBytes-rest : (b : ℕ) (bytes : List ℕ) → IsBytes (b ∷ bytes) → IsBytes bytes
IsBytes-rest b bytes h i = h (suc i)

-- the value of a step that did not fail
pub bind_ok : {A B : Type 0} (r : Result A ReadFault) (f : A → Result B ReadFault) (y : B) → (r >>= f) ≡ Ok y → (x : A) × (r ≡ Ok x) × (f x ≡ Ok y)
bind_ok (Ok x) f y e = (x, refl, e)
bind_ok (Err d) f y e = absurd cc

-- a test that did not fail, which refuses where it is true, or where it is false
pub refuses_true : {A : Type 0} (b : Bool) (d : ReadFault) (x y : A) → cond b (Err d) (Ok x) ≡ Ok y → (b ≡ false) × (x ≡ y)
refuses_true true d x y e = absurd cc
refuses_true false d x y e = (refl, cc)

pub refuses_false : {A : Type 0} (b : Bool) (d : ReadFault) (x y : A) → cond b (Ok x) (Err d) ≡ Ok y → (b ≡ true) × (x ≡ y)
refuses_false true d x y e = (refl, cc)
refuses_false false d x y e = absurd cc

pub refuses_true_then : {A : Type 0} (b : Bool) (d : ReadFault) (r : Result A ReadFault) (y : A) → cond b (Err d) r ≡ Ok y → (b ≡ false) × (r ≡ Ok y)
refuses_true_then true d r y e = absurd cc
refuses_true_then false d r y e = (refl, e)

abbrev done : {A : Type 0} → A → Result A ReadFault
done x = Ok x

pub ok_is : {A : Type 0} (x y : A) → done x ≡ done y → x ≡ y
ok_is x y e = cc

-- what a reader took from the front
pub record Takes (bytes text rest : List ℕ) : Type 0 where
  pub parts : bytes ≡ text ++ rest
  pub rest_fits : IsBytes rest

pub Takes-then : (a x b y c : List ℕ) → Takes a x b → Takes b y c → Takes a (x ++ y) c
Takes-then a x b y c p q = record { parts = p.parts ∙ ap (λ (t : List ℕ). x ++ t) q.parts ∙ sym (append_assoc x y c); rest_fits = q.rest_fits }

-- ---- numbers

pub record IsWide (w : Width) (limit : ℕ) : Type 0 where
  pub len : (n : ℕ) → length (to_be_bytes w n) ≡ byte_len w
  pub back : (bytes : List ℕ) → length bytes ≡ byte_len w → IsBytes bytes → to_be_bytes w (from_be_bytes w bytes) ≡ bytes
  pub again : (n : ℕ) → n < limit → from_be_bytes w (to_be_bytes w n) ≡ n
  pub below : (bytes : List ℕ) → IsBytes bytes → from_be_bytes w bytes < limit

pub wide16 : IsWide w16 (2 ^ 16)
wide16 = record {
  len = λ n. refl;
  back = λ bytes len fits. be_bytes_2 bytes _ len fits refl;
  again = λ n lt. from_be_bytes-to_be_bytes_2 n lt;
  below = λ bytes fits. omega (arith, fits 0, fits 1);
}

pub wide32 : IsWide w32 (2 ^ 32)
wide32 = record {
  len = λ n. refl;
  back = λ bytes len fits. be_bytes_4 bytes _ len fits refl;
  again = λ n lt. from_be_bytes-to_be_bytes_4 n lt;
  below = λ bytes fits. omega (arith, fits 0, fits 1, fits 2, fits 3);
}

pub wide64 : IsWide w64 (2 ^ 64)
wide64 = record {
  len = λ n. refl;
  back = λ bytes len fits. be_bytes_8 bytes _ len fits refl;
  again = λ n lt. from_be_bytes-to_be_bytes_8 n lt;
  below = λ bytes fits. omega (arith, fits 0, fits 1, fits 2, fits 3, fits 4, fits 5, fits 6, fits 7);
}

pub wide128 : IsWide w128 (2 ^ 128)
wide128 = record {
  len = λ n. refl;
  back = λ bytes len fits. be_bytes_16 bytes _ len fits refl;
  again = λ n lt. from_be_bytes-to_be_bytes_16 n lt;
  below = λ bytes fits. omega (arith, fits 0, fits 1, fits 2, fits 3, fits 4, fits 5, fits 6, fits 7, fits 8, fits 9, fits 10, fits 11, fits 12, fits 13, fits 14, fits 15);
}

pub number_takes : (w : Width) (limit : ℕ) (wide : IsWide w limit) (bytes : List ℕ) (n : ℕ) (rest : List ℕ) → IsBytes bytes → number_at w bytes ≡ Ok (n, rest) → Takes bytes (to_be_bytes w n) rest × (n < limit)
number_takes w limit wide bytes n rest fits e =
    let g = refuses_true (ltb (length bytes) (byte_len w)) Truncated (from_be_bytes w (take (byte_len w) bytes), drop (byte_len w) bytes) (n, rest) e in
    let long : byte_len w ≤ length bytes = ltb-false _ _ g.0 in
    let n-is : from_be_bytes w (take (byte_len w) bytes) ≡ n = ap (λ (p : ℕ × List ℕ). p.0) g.1 in
    let rest-is : drop (byte_len w) bytes ≡ rest = ap (λ (p : ℕ × List ℕ). p.1) g.1 in
    let front : to_be_bytes w n ≡ take (byte_len w) bytes = rw (← n-is) (wide.back (take (byte_len w) bytes) (omega (arith, length-take (byte_len w) bytes)) (IsBytes-take (byte_len w) bytes fits)) in
    (record { parts = rw (front, ← rest-is) (sym (take-append-drop (byte_len w) bytes)); rest_fits = rw (← rest-is) (IsBytes-drop (byte_len w) bytes fits) }, rw (← n-is) (wide.below (take (byte_len w) bytes) (IsBytes-take (byte_len w) bytes fits)))

pub number_again : (w : Width) (limit : ℕ) (wide : IsWide w limit) (n : ℕ) (rest : List ℕ) → n < limit → number_at w (to_be_bytes w n ++ rest) ≡ Ok (n, rest)
number_again w limit wide n rest lt =
    let len = wide.len n in
    let long : ltb (length (to_be_bytes w n ++ rest)) (byte_len w) ≡ false = le-ltb _ _ (omega (arith, length-append (to_be_bytes w n) rest)) in
    rw (long, take_at (to_be_bytes w n) rest (byte_len w) len, drop_at (to_be_bytes w n) rest (byte_len w) len, wide.again n lt) refl

pub positive_takes : (w : Width) (limit : ℕ) (wide : IsWide w limit) (bytes : List ℕ) (x : ℕ × List ℕ) → IsBytes bytes → positive_at w bytes ≡ Ok x → Takes bytes (to_be_bytes w x.0) x.1 × (x.0 < limit) × (leb 1 x.0 ≡ true)
unfolding positive_at
positive_takes w limit wide bytes x fits e =
    let a = bind_ok (number_at w bytes) _ x e in
    let g = refuses_true (eqb a.0.0 0) BadField a.0 x a.2 in
    let t = number_takes w limit wide bytes a.0.0 a.0.1 fits a.1 in
    let some = eqb-false a.0.0 0 g.0 in
    let from : leb 1 a.0.0 ≡ true = le-leb 1 a.0.0 (omega (arith, some)) in
    subst (λ (y : ℕ × List ℕ). Takes bytes (to_be_bytes w y.0) y.1 × (y.0 < limit) × (leb 1 y.0 ≡ true)) g.1 (t.0, t.1, from)

pub positive_again : (w : Width) (limit : ℕ) (wide : IsWide w limit) (n : ℕ) (rest : List ℕ) → n < limit → leb 1 n ≡ true → positive_at w (to_be_bytes w n ++ rest) ≡ Ok (n, rest)
unfolding positive_at
positive_again w limit wide n rest lt from =
    let some : eqb n 0 ≡ false = ne_eqb n 0 (λ none. omega (arith, none, leb-true 1 n from)) in
    rw (number_again w limit wide n rest lt, some) refl

-- ---- flags

pub flag_takes : (bytes : List ℕ) (x : Bool × List ℕ) → IsBytes bytes → flag_at bytes ≡ Ok x → Takes bytes (flag_bytes x.0) x.1
unfolding flag_at
flag_takes [] x fits e = absurd cc
flag_takes (byte ∷ bytes) x fits e = first (eqb byte 0) refl
  where
    as_is : (flag : Bool) → byte ∷ bytes ≡ flag_bytes flag ++ bytes → done (flag, bytes) ≡ Ok x → Takes (byte ∷ bytes) (flag_bytes x.0) x.1
    as_is flag parts is =
        let made : Bool × List ℕ = (flag, bytes) in
        subst (λ (y : Bool × List ℕ). Takes (byte ∷ bytes) (flag_bytes y.0) y.1) (ok_is made x is) (record { parts = parts; rest_fits = IsBytes-rest byte bytes fits })

    second : (b : Bool) → eqb byte 0 ≡ false → eqb byte 1 ≡ b → Takes (byte ∷ bytes) (flag_bytes x.0) x.1
    second true no0 is = as_is true (ap (λ (n : ℕ). n ∷ bytes) (eqb-true byte 1 is)) (rw (no0, is) at e)
    second false no0 is = let wrong = rw (no0, is) at e in absurd cc

    first : (b : Bool) → eqb byte 0 ≡ b → Takes (byte ∷ bytes) (flag_bytes x.0) x.1
    first true is = as_is false (ap (λ (n : ℕ). n ∷ bytes) (eqb-true byte 0 is)) (rw is at e)
    first false is = second (eqb byte 1) is refl

pub flag_again : (flag : Bool) (rest : List ℕ) → flag_at (flag_bytes flag ++ rest) ≡ Ok (flag, rest)
unfolding flag_at
flag_again false rest = refl
flag_again true rest = refl

-- ---- digests

pub digest_takes : (bytes : List ℕ) (x : Digest × List ℕ) → IsBytes bytes → digest_at bytes ≡ Ok x → Takes bytes x.0.0 x.1 × IsDigest x.0
unfolding digest_at
digest_takes bytes x fits e =
    let made : Digest × List ℕ = (record { 0 = take 32 bytes }, drop 32 bytes) in
    let g = refuses_true (ltb (length bytes) 32) Truncated made x e in
    let long : 32 ≤ length bytes = ltb-false _ _ g.0 in
    let is : IsDigest made.0 = record { size = omega (arith, length-take 32 bytes); bytes = IsBytes-take 32 bytes fits } in
    subst (λ (y : Digest × List ℕ). Takes bytes y.0.0 y.1 × IsDigest y.0) g.1 (record { parts = sym (take-append-drop 32 bytes); rest_fits = IsBytes-drop 32 bytes fits }, is)

pub digest_again : (d : Digest) (rest : List ℕ) → IsDigest d → digest_at (d.0 ++ rest) ≡ Ok (d, rest)
unfolding digest_at
digest_again d rest is =
    let long : ltb (length (d.0 ++ rest)) 32 ≡ false = le-ltb _ _ (omega (arith, length-append d.0 rest, is.size)) in
    rw (long, take_at d.0 rest 32 is.size, drop_at d.0 rest 32 is.size) refl

-- ---- titles

-- what is not UTF-8 is no title
pub no_title : (bytes : List ℕ) → ¬ (IsUtf8 bytes) → title_of_bytes bytes ≡ Err BadField
no_title bytes bad = step (is_utf8 bytes) refl
  where
    step : (b : Bool) → is_utf8 bytes ≡ b → title_of_bytes bytes ≡ Err BadField
    step true e = absurd (bad (IsUtf8-from_is_utf8 bytes e))
    step false e = rw e refl

pub title_takes : (bytes title rest : List ℕ) → IsBytes bytes → title_at bytes ≡ Ok (title, rest) → Takes bytes (title_bytes title) rest × IsTrue (is_title title)
unfolding title_at
title_takes [] title rest fits e = absurd cc
title_takes (n ∷ bytes) title rest fits e =
    let g = refuses_true_then (ltb (length bytes) n) Truncated (title_of_bytes (take n bytes) >>= λ t. Ok (t, drop n bytes)) (title, rest) e in
    let long : n ≤ length bytes = ltb-false _ _ g.0 in
    let b = bind_ok (title_of_bytes (take n bytes)) _ (title, rest) g.1 in
    let t = refuses_false (is_title (take n bytes)) BadField (take n bytes) b.0 b.1 in
    let both = ok_is (b.0, drop n bytes) (title, rest) b.2 in
    let title-is : take n bytes ≡ title = t.1 ∙ ap (λ (p : List ℕ × List ℕ). p.0) both in
    let rest-is : drop n bytes ≡ rest = ap (λ (p : List ℕ × List ℕ). p.1) both in
    let len : length title ≡ n = rw (← title-is) (omega (arith, length-take n bytes)) in (
      record { parts = rw (len, ← title-is, ← rest-is) (ap (λ (l : List ℕ). n ∷ l) (sym (take-append-drop n bytes))); rest_fits = rw (← rest-is) (IsBytes-drop n bytes (IsBytes-rest n bytes fits)) },
      subst (λ (l : List ℕ). IsTrue (is_title l)) title-is t.0,
    )

pub title_again : (title rest : List ℕ) → IsTrue (is_title title) → title_at (title_bytes title ++ rest) ≡ Ok (title, rest)
unfolding title_at
title_again title rest is =
    let long : ltb (length (title ++ rest)) (length title) ≡ false = le-ltb _ _ (omega (arith, length-append title rest)) in
    rw (long, take_at title rest (length title) refl, drop_at title rest (length title) refl, is) refl

-- Quotients that round down.
use Rattle.std.proofs.Common.{◌≡◌, ℕ, zero, suc, ◌+◌, ◌*◌, ◌/◌, ◌^◌, ◌<◌, ◌≤◌, inl, inr, refl, sym, ◌∙◌, arith, ap, ℤ, pos, negsuc, ◌+ℤ◌, ◌*ℤ◌, FitsSigned, to_z, of_z}
use Rattle.std.proofs.Math.Nat.{mul-le-mul_right, mul-le-mul_left}
use Rattle.std.proofs.lemmas.Bool.{cases_lt}
use Rattle.std.proofs.lemmas.Nat.{mul-le, div-mul-add}
use Rattle.mt_render.specs.Divides.{Divides}
use Rattle.std.specs.Int.{w64, w128, int_div_euclid}
use Rattle.std.proofs.lemmas.Int.{ints, to_z-of_z}
use borrow.Author.Differences.{up, down, same_in, sum_is_lem, product_is}
use Rattle.mt_render.specs.Mix.{floored, rounded}

-- c is the quotient of z by n
pub record IsFloor (z : ℤ) (n : ℕ) (c : ℤ) : Type 0 where
  pub least : up c * n + down z ≤ down c * n + up z
  pub most : down c * n + up z < up c * n + down z + n

pub floored_is : (z : ℤ) (n : ℕ) → 0 < n → IsFloor z n (floored z n)
floored_is (pos a) n h = record { least = omega arith; most = omega arith }
floored_is (negsuc a) n h = record { least = omega arith; most = omega arith }

pub below_next : (u v n : ℕ) → u * n < v * n + n → u ≤ v
below_next u v n h =
    elim (cases_lt v u) [
      | inl gt ↦ let k : (v + 1) * n ≤ u * n = mul-le-mul_right n (omega arith) in absurd (omega arith)
      | inr le ↦ le
    ]

-- there is one quotient
pub one_floor : (z : ℤ) (n : ℕ) (c d : ℤ) → IsFloor z n c → IsFloor z n d → c ≡ d
one_floor z n c d p q =
    let a : up c + down d ≤ up d + down c = below_next (up c + down d) (up d + down c) n (omega (arith, p.least, p.most, q.least, q.most)) in
    let b : up d + down c ≤ up c + down d = below_next (up d + down c) (up c + down d) n (omega (arith, p.least, p.most, q.least, q.most)) in
    same_in c d (omega arith)

twice : ℤ → ℕ → ℤ
twice p q = pos 2 *ℤ p +ℤ pos q

twice_is : (p : ℤ) (q : ℕ) → up (twice p q) + 2 * down p ≡ down (twice p q) + 2 * up p + q
unfolding twice
twice_is p q = omega (arith, sum_is_lem (pos 2 *ℤ p) (pos q), product_is (pos 2) p)

-- the half of the divisor goes in as a whole number: no doubling
half_floor : (z p : ℤ) (q : ℕ) (c s : ℤ) → up z + 2 * down p ≡ down z + 2 * up p + q → up s + down p ≡ down s + up p + q / 2 → IsFloor s q c → IsFloor z (2 * q) c
half_floor z p q c s e f k = record {
  least = omega (arith, k.least);
  most = omega (arith, k.most);
}

pub rounded_by_half : (p : ℤ) (q : ℕ) → 0 < q → rounded p q ≡ floored (p +ℤ pos (q / 2)) q
unfolding twice
rounded_by_half p q h =
    let s = p +ℤ pos (q / 2) in
    let c = floored s q in
    let e : up s + down p ≡ down s + up p + q / 2 = omega (arith, sum_is_lem p (pos (q / 2))) in
    one_floor (twice p q) (2 * q) (rounded p q) c (floored_is (twice p q) (2 * q) (omega arith)) (half_floor (twice p q) p q c s (twice_is p q) e (floored_is s q h))

scaled_floor : (g n : ℕ) (y z c : ℤ) → 0 < g → up z + g * down y ≡ down z + g * up y → IsFloor y n c → IsFloor z (g * n) c
scaled_floor g n y z c h e k =
    let a : g * (up c * n + down y) ≤ g * (down c * n + up y) = mul-le-mul_left g k.least in
    let b : g * (down c * n + up y + 1) ≤ g * (up c * n + down y + n) = mul-le-mul_left g (omega (arith, k.most)) in
    record { least = omega arith; most = omega arith }

times : (g u d v e q : ℕ) → u + 2 * d ≡ v + 2 * e + q → g * u + 2 * (g * d) ≡ g * v + 2 * (g * e) + g * q
times g u d v e q h = let m : g * (u + 2 * d) ≡ g * (v + 2 * e + q) = ap (λ n. g * n) h in omega arith

up_part : (g u d a r : ℕ) → r ≡ u * a + d * 0 → g * r ≡ u * (g * a)
up_part g u d a r h = rw h (omega arith)

down_part : (g u d a r : ℕ) → r ≡ u * 0 + d * a → g * r ≡ d * (g * a)
down_part g u d a r h = rw h (omega arith)

-- a fraction may be reduced
pub rounded_reduced : (g a q : ℕ) (x : ℤ) → 0 < g → 0 < q → rounded (x *ℤ pos (g * a)) (g * q) ≡ rounded (x *ℤ pos a) q
unfolding twice
rounded_reduced g a q x hg hq =
    let p = x *ℤ pos (g * a) in
    let r = x *ℤ pos a in
    let c = rounded r q in
    let positive : 1 * 1 ≤ g * q = mul-le 1 1 g q hg hq in
    let more = times g (up (twice r q)) (down r) (down (twice r q)) (up r) q (twice_is r q) in
    let left : g * up r ≡ up x * (g * a) = up_part g (up x) (down x) a (up r) (product_is x (pos a)).0 in
    let right : g * down r ≡ down x * (g * a) = down_part g (up x) (down x) a (down r) (product_is x (pos a)).1 in
    let e : up (twice p (g * q)) + g * down (twice r q) ≡ down (twice p (g * q)) + g * up (twice r q) =
    omega (arith, twice_is p (g * q), more, (product_is x (pos (g * a))).0, (product_is x (pos (g * a))).1, left, right) in
    let k : IsFloor (twice p (g * q)) (g * (2 * q)) c = scaled_floor g (2 * q) (twice r q) (twice p (g * q)) c hg e (floored_is (twice r q) (2 * q) (omega arith)) in
    one_floor (twice p (g * q)) (2 * (g * q)) (rounded p (g * q)) c (floored_is (twice p (g * q)) (2 * (g * q)) (omega arith)) (record { least = omega (arith, k.least); most = omega (arith, k.most) })

-- ---- the three ways, each for the divisor that it is taken for

pub by_division : (p : ℤ) (den : ℕ) → 0 < den → floored (p +ℤ pos (den / 2)) den ≡ rounded p den
by_division p den some = sym (rounded_by_half p den some)

quotient : (n g a : ℕ) → 0 < g → n ≡ g * a → n / g ≡ a
quotient n g a h e = let f : n ≡ a * g + 0 = omega arith in rw f (div-mul-add a g 0 h)

-- two fractions that are one
pub rounded_same : (a b c d : ℕ) (x : ℤ) → 0 < c → 0 < d → a * d ≡ b * c → rounded (x *ℤ pos a) c ≡ rounded (x *ℤ pos b) d
rounded_same a b c d x hc hd same =
    let over : d * a ≡ c * b = omega arith in
    let under : d * c ≡ c * d = omega arith in
    sym (rounded_reduced d a c x hd hc) ∙ ap (λ (n : ℕ). rounded (x *ℤ pos n) (d * c)) over
    ∙ ap (λ (n : ℕ). rounded (x *ℤ pos (c * b)) n) under ∙ rounded_reduced c b d x hc hd

-- both parts over a divisor of both, times any others
pub in_lower_terms : (n d g a b : ℕ) (x : ℤ) → 0 < g → 0 < d → 0 < b → Divides g n → Divides g d → rounded (x *ℤ pos (n / g * a)) (d / g * b) ≡ rounded (x *ℤ pos (n * a)) (d * b)
in_lower_terms n d g a b x hg hd hb p q =
    let qn = quotient n g p.times hg p.is in
    let qd = quotient d g q.times hg q.is in
    let some : 1 * 1 ≤ q.times * b = mul-le 1 1 q.times b (some_times g q.times d hd q.is) hb in
    let whole : 1 * 1 ≤ d * b = mul-le 1 1 d b hd hb in
    let same : (p.times * a) * ((g * q.times) * b) ≡ ((g * p.times) * a) * (q.times * b) = omega arith in
    rw (qn, qd) (rounded_same (p.times * a) (n * a) (q.times * b) (d * b) x (omega arith) (omega arith) (rw (← p.is, ← q.is) at same))
  where
    some_times : (g t d : ℕ) → 0 < d → d ≡ g * t → 0 < t
    some_times g zero d hd e = let z : g * 0 ≡ 0 = omega arith in absurd (omega arith)
    some_times g (suc t) d hd e = omega arith

-- the quotient of two numbers of 64 bits
pub divided : (r z d : ℤ) → FitsSigned w64 r → FitsSigned w64 z → FitsSigned w64 d
    → r ≡ int_div_euclid (to_z w64 (of_z w64 z)) (to_z w64 (of_z w64 d)) → to_z w64 (of_z w64 r) ≡ int_div_euclid z d
divided r z d fr fz fd h = to_z-of_z w64 r fr ∙ h ∙ rw (to_z-of_z w64 z fz, to_z-of_z w64 d fd) refl

widened : (n : ℕ) → n < 2 ^ 127 → to_z w128 n ≡ pos n
widened n small = omega (arith, ints)

-- and of two of 128, with half of the divisor added before
pub divided_wide : (r z p : ℤ) (n : ℕ) → FitsSigned w128 z → n < 2 ^ 127 → 0 < n → r ≡ int_div_euclid (to_z w128 (of_z w128 z)) (to_z w128 n) → z ≡ p +ℤ pos (n / 2) → r ≡ rounded p n
divided_wide r z p n fits small some h is = h ∙ rw (to_z-of_z w128 z fits, widened n small, is) (by_division p n some)

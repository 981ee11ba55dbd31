-- Quotients by products with an inverse of 64 bits and a shift.
use Rattle.std.proofs.Common.{◌≡◌, ℕ, ◌+◌, ◌-◌, ◌*◌, ◌/◌, ◌%◌, ◌^◌, ◌<◌, ◌≤◌, ◌∙◌, arith, ap, pow_pos, pow-add, shr-shr, mod-lt, mul-add}
use Rattle.std.proofs.Math.Nat.{mul-le-mul_left, mul-le-mul_right}
use Rattle.std.proofs.lemmas.Nat.{div-add-mod'}
use Rattle.mt_render.specs.Divides.{IsNear, IsNearer}
use Rattle.mt_render.proofs.Floors.{below_next}
use Rattle.mt_render.proofs.Quotients.{product_quotient}

-- the quotient of a number below 2 ^ 63
pub near_quotient : (u den inverse shift : ℕ) → 0 < den → IsNear den inverse shift → u < 2 ^ 63 → u * inverse / 2 ^ 64 / 2 ^ shift ≡ u / den
near_quotient u den inverse shift some near small =
    let top : ℕ = 2 ^ 64 * 2 ^ shift in
    let p : 0 < 2 ^ shift = pow_pos shift in
    let a : u * den ≤ u * (2 * 2 ^ shift) = mul-le-mul_left u near.within in
    let b : (u + 1) * (2 * 2 ^ shift) ≤ 2 ^ 63 * (2 * 2 ^ shift) = mul-le-mul_right (2 * 2 ^ shift) (omega arith) in
    let c : u * den < top = omega arith in
    let e : 2 ^ (64 + shift) ≡ top = pow-add 2 64 shift in
    shr-shr (u * inverse) 64 shift ∙ ap (λ n. u * inverse / n) e ∙ product_quotient u den inverse top some near.above near.below c

-- the inverse that a division gives
pub near_is : (den shift inverse : ℕ) → 0 < den → den ≤ 2 * 2 ^ shift → inverse ≡ (2 ^ 64 * 2 ^ shift + (den - 1)) / den → IsNear den inverse shift
near_is den shift inverse some within is =
    let n : ℕ = 2 ^ 64 * 2 ^ shift + (den - 1) in
    let whole : n / den * den + n % den ≡ n = div-add-mod' n den in
    let rest : n % den < den = mod-lt n some in
    rw is (record { above = omega arith; below = omega arith; within = within })

-- a one that was shifted
pub top_is : (s : ℕ) → 2 ^ s < 2 ^ 53 → 1 * 2 ^ (64 + s) % 2 ^ 128 ≡ 2 ^ 64 * 2 ^ s
top_is s small =
    let e : 2 ^ (64 + s) ≡ 2 ^ 64 * 2 ^ s = pow-add 2 64 s in
    rw e (omega arith)

-- the inverse is below 2 ^ 64
pub inverse_fits : (den s : ℕ) → 2 ^ s < den → den ≤ 2 ^ 53 → (2 ^ 64 * 2 ^ s + (den - 1)) / den < 2 ^ 64
inverse_fits den s below small =
    let n : ℕ = 2 ^ 64 * 2 ^ s + (den - 1) in
    let whole : n / den * den + n % den ≡ n = div-add-mod' n den in
    let le : n / den ≤ 2 ^ 64 - 1 = below_next (n / den) (2 ^ 64 - 1) den (omega arith) in
    omega arith

-- ---- with one bit more

-- the quotient of any number of 64 bits
pub nearer_quotient : (u den lower shift : ℕ) → 0 < den → IsNearer den lower shift → u < 2 ^ 64 → (u * lower / 2 ^ 64 + (u - u * lower / 2 ^ 64) / 2) / 2 ^ shift ≡ u / den
nearer_quotient u den lower shift some near small =
    let m : ℕ = 2 ^ 64 + lower in
    let top : ℕ = 2 ^ 65 * 2 ^ shift in
    let t : ℕ = u * lower / 2 ^ 64 in
    let a : u * den ≤ u * (2 * 2 ^ shift) = mul-le-mul_left u near.within in
    let p : 0 < 2 ^ shift = pow_pos shift in
    let b : (u + 1) * (2 * 2 ^ shift) ≤ 2 ^ 64 * (2 * 2 ^ shift) = mul-le-mul_right (2 * 2 ^ shift) (omega arith) in
    let c : u * den < top = omega arith in
    let under : u * lower ≤ u * 2 ^ 64 = mul-le-mul_left u (omega (arith, near.small)) in
    let apart : u * m ≡ u * 2 ^ 64 + u * lower = mul-add u (2 ^ 64) lower in
    let mean : t + (u - t) / 2 ≡ u * m / 2 ^ 64 / 2 ^ 1 = omega (arith, apart, under) in
    let e : 2 ^ (65 + shift) ≡ top = pow-add 2 65 shift in
    ap (λ (n : ℕ). n / 2 ^ shift) (mean ∙ shr-shr (u * m) 64 1) ∙ shr-shr (u * m) 65 shift ∙ ap (λ (n : ℕ). u * m / n) e ∙ product_quotient u den m top some near.above near.below c

-- the inverse that a division gives
pub nearer_is : (den shift lower : ℕ) → 0 < den → den ≤ 2 ^ 53 → 2 ^ shift < den → den ≤ 2 * 2 ^ shift → 2 ^ 64 + lower ≡ (2 ^ 65 * 2 ^ shift + (den - 1)) / den → IsNearer den lower shift
nearer_is den shift lower some to below within is =
    let n : ℕ = 2 ^ 65 * 2 ^ shift + (den - 1) in
    let whole : n / den * den + n % den ≡ n = div-add-mod' n den in
    let rest : n % den < den = mod-lt n some in
    let same : (2 ^ 64 + lower) * den ≡ n / den * den = ap (λ (i : ℕ). i * den) is in
    let le : 2 ^ 64 + lower ≤ 2 ^ 65 - 1 = below_next (2 ^ 64 + lower) (2 ^ 65 - 1) den (omega arith) in
    record { above = omega arith; below = omega arith; within = within; small = omega arith }

-- it has 65 bits
pub nearer_fits : (den shift : ℕ) → 0 < den → den ≤ 2 ^ 53 → 2 ^ shift < den → den ≤ 2 * 2 ^ shift
    → (2 ^ 64 ≤ (2 ^ 65 * 2 ^ shift + (den - 1)) / den) × ((2 ^ 65 * 2 ^ shift + (den - 1)) / den < 2 ^ 65)
nearer_fits den shift some to below within =
    let n : ℕ = 2 ^ 65 * 2 ^ shift + (den - 1) in
    let whole : n / den * den + n % den ≡ n = div-add-mod' n den in
    let rest : n % den < den = mod-lt n some in
    let low : 2 ^ 64 ≤ n / den = below_next (2 ^ 64) (n / den) den (omega arith) in
    let le : n / den ≤ 2 ^ 65 - 1 = below_next (n / den) (2 ^ 65 - 1) den (omega arith) in
    (low, omega arith)

-- a one that was shifted
pub farther_top_is : (s : ℕ) → 2 ^ s < 2 ^ 53 → 1 * 2 ^ (65 + s) % 2 ^ 128 ≡ 2 ^ 65 * 2 ^ s
farther_top_is s small =
    let e : 2 ^ (65 + s) ≡ 2 ^ 65 * 2 ^ s = pow-add 2 65 s in
    rw e (omega arith)

pub half_at_most : (u den : ℕ) → 2 ≤ den → u < 2 ^ 64 → u / den < 2 ^ 63
half_at_most u den from small =
    let whole : u / den * den + u % den ≡ u = div-add-mod' u den in
    let twice : u / den * 2 ≤ u / den * den = mul-le-mul_left (u / den) from in
    omega arith

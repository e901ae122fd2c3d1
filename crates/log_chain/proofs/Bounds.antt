-- What callers know of the digits after k squarings.
use Rattle.std.proofs.Common.{◌≡◌, ℕ, zero, suc, ◌+◌, ◌-◌, ◌*◌, ◌/◌, ◌^◌, ◌<◌, ◌≤◌, arith, ◌∙◌, mul-pos, pow_pos, pow_mono, pow-suc, pow-add, mul-le-mul_left, mul-le-mul_right, mul-lt-mul_of_pos_right, mul_comm, add-one, inl, inr}
use Rattle.std.proofs.Math.Nat.{div-div-eq-div-mul, le_of_mul-le-mul_left, one-le-pow, mul-lt-mul_of_pos_left, pow-le-pow_left, pow-zero}
use Rattle.std.proofs.lemmas.Bool.{cases_lt}
use Rattle.std.proofs.lemmas.Nat.{mul-pow}
use Rattle.log_chain.specs.Chain.{start, chain}
use Rattle.log_chain.proofs.WholeLog.{whole_log_le, whole_log_fits, whole_log_next}
use Rattle.log_chain.proofs.Extend.{extend_half}
use Rattle.log_chain.proofs.Products.{width}
use Rattle.log_chain.proofs.Enclosure.{Encloses, chain_encloses, loss, loss_is}

-- the digits without the last
pub chain_half : (p q k : ℕ) → (chain p q (suc k)).digits / 2 ≡ (chain p q k).digits
unfolding chain
chain_half p q k = extend_half (chain p q k)

-- the digits without the last s
pub chain_leading : (p q k s : ℕ) → (chain p q (k + s)).digits / 2 ^ s ≡ (chain p q k).digits
chain_leading p q k zero = let same : k + zero ≡ k = omega arith in rw (same, pow-zero) (omega arith)
chain_leading p q k (suc s) =
    let next : k + suc s ≡ suc (k + s) = omega arith in
    let two : 2 ^ suc s ≡ 2 * 2 ^ s = pow-suc 2 s ∙ omega arith in
    rw (next, two, ← div-div-eq-div-mul, chain_half) (chain_leading p q k s)

start_small : (p q : ℕ) → (chain p q 0).digits < 2 ^ 6
unfolding chain start
start_small p q = omega (arith, whole_log_le p q 63)

-- there are at most 6 more digits than squarings
pub chain_small : (p q k : ℕ) → (chain p q k).digits < 2 ^ (k + 6)
chain_small p q zero = start_small p q
chain_small p q (suc k) =
    let e : 2 ^ (suc k + 6) ≡ 2 ^ (k + 6) * 2 = (let n : suc k + 6 ≡ suc (k + 6) = omega arith in rw n (pow-suc 2 (k + 6))) in
    omega (arith, chain_small p q k, chain_half p q k)

lower_from : (P Q k c y : ℕ) → Encloses P Q k c y → 2 ^ c * P ≤ Q
lower_from P Q k c y h =
    let a : 2 ^ c * P * 2 ^ 62 ≤ 2 ^ c * P * y = mul-le-mul_left _ h.least in
    let b : 2 ^ c * y * P ≤ Q * 2 ^ 62 = h.below in
    let d : 2 ^ 62 * (2 ^ c * P) ≤ 2 ^ 62 * Q = omega arith in
    le_of_mul-le-mul_left d (omega arith)

upper_from : (P Q k c y : ℕ) → k ≤ 60 → 0 < P → Encloses P Q k c y → Q < 2 ^ (c + 2) * P
upper_from P Q k c y le pos h =
    let half : 2 ^ k ≤ 2 ^ 60 = pow_mono le in
    let four : 2 ^ (c + 2) ≡ 4 * 2 ^ c = pow-add 2 c 2 ∙ omega arith in
    rw four (width (2 ^ c) (2 ^ 62) P Q (loss k) y (omega arith) (omega (arith, loss_is k)) h.most (mul-pos (pow_pos c) pos) h.above)

nearly_from : (P Q k c y : ℕ) → 0 < P → Encloses P Q k c y → Q * (2 ^ 62 + 1 - 2 * 2 ^ k) < 2 ^ (c + 1) * P * 2 ^ 62
nearly_from P Q k c y pos h =
    let left : 2 ^ 62 + 1 - 2 * 2 ^ k ≡ 2 ^ 62 - loss k = omega (arith, loss_is k) in
    let two : 2 ^ (c + 1) ≡ 2 ^ c * 2 = pow-add 2 c 1 in
    let a : 2 ^ c * P * y < 2 ^ c * P * 2 ^ 63 = mul-lt-mul_of_pos_left h.most (mul-pos (pow_pos c) pos) in
    rw (left, two) (omega (arith, h.above))

-- x ^ (2 ^ k) is at least 2 ^ c
pub chain_lower : (p q k : ℕ) → 0 < p → p ≤ q → q < 2 ^ 64 → 2 ^ (chain p q k).digits * p ^ (2 ^ k) ≤ q ^ (2 ^ k)
chain_lower p q k pos le fits = lower_from _ _ k _ _ (chain_encloses p q k pos le fits)

-- and below 2 ^ (c + 2)
pub chain_upper : (p q k : ℕ) → 0 < p → p ≤ q → q < 2 ^ 64 → k ≤ 60 → q ^ (2 ^ k) < 2 ^ ((chain p q k).digits + 2) * p ^ (2 ^ k)
chain_upper p q k pos le fits h = upper_from _ _ k _ _ h (one-le-pow (2 ^ k) p pos) (chain_encloses p q k pos le fits)

-- products of bounds, from which an order of the powers is an order of the numbers
apart_from : (p q s t N C D : ℕ) → 0 < s ^ N → C ≤ D → q ^ N < C * p ^ N → D * s ^ N ≤ t ^ N → q * s < t * p
apart_from p q s t N C D pos le above below = elim (cases_lt (q * s) (t * p)) [
  | inl less ↦ less
  | inr more ↦ (
      let a : (t * p) ^ N ≤ (q * s) ^ N = pow-le-pow_left more N in
      let b : t ^ N * p ^ N ≤ q ^ N * s ^ N = rw (mul-pow, mul-pow) at a in
      let c : q ^ N * s ^ N < C * p ^ N * s ^ N = mul-lt-mul_of_pos_right above pos in
      let d : C * (p ^ N * s ^ N) ≤ D * (p ^ N * s ^ N) = mul-le-mul_right (p ^ N * s ^ N) le in
      let e : D * s ^ N * p ^ N ≤ t ^ N * p ^ N = mul-le-mul_right (p ^ N) below in
      absurd (omega arith))
]

-- digits that differ by 2 tell which number is larger
pub chain_apart : (p q s t k : ℕ) → 0 < p → p ≤ q → q < 2 ^ 64 → 0 < s → s ≤ t → t < 2 ^ 64 → k ≤ 60
    → (chain p q k).digits + 2 ≤ (chain s t k).digits → q * s < t * p
chain_apart p q s t k pos le fits pos' le' fits' few h =
    apart_from p q s t (2 ^ k) _ _ (one-le-pow (2 ^ k) s pos') (pow_mono h) (chain_upper p q k pos le fits few) (chain_lower s t k pos' le' fits')

-- all but a part of 2 ^ (k - 61) of it is below 2 ^ (c + 1)
pub chain_nearly : (p q k : ℕ) → 0 < p → p ≤ q → q < 2 ^ 64 → q ^ (2 ^ k) * (2 ^ 62 + 1 - 2 * 2 ^ k) < 2 ^ ((chain p q k).digits + 1) * p ^ (2 ^ k) * 2 ^ 62
chain_nearly p q k pos le fits = nearly_from _ _ k _ _ (one-le-pow (2 ^ k) p pos) (chain_encloses p q k pos le fits)

-- before any squaring the digits are the whole part of the logarithm
pub whole_lower : (p q : ℕ) → p ≤ q → 2 ^ (chain p q 0).digits * p ≤ q
unfolding chain start
whole_lower p q le = rw mul_comm (whole_log_fits p q 63 le)

pub whole_upper : (p q : ℕ) → 0 < p → q < 2 ^ 64 → q < 2 ^ ((chain p q 0).digits + 1) * p
unfolding chain start
whole_upper p q pos fits = rw (mul_comm, add-one) (whole_log_next p q 63 (omega arith))

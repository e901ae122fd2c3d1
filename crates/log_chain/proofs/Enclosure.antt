-- After k squarings the digits and the rest enclose x ^ (2 ^ k), for x = q / p.
use Rattle.std.proofs.Common.{◌≡◌, ℕ, zero, suc, ◌+◌, ◌-◌, ◌*◌, ◌/◌, ◌^◌, ◌<◌, ◌≤◌, arith, ap, refl, ◌∙◌, pow-suc, mul-le-mul_left, mul-pos, pow_pos}
use Rattle.std.proofs.Math.Nat.{le_of_mul-le-mul_left, mul-div-le, lt-mul-div-succ, sub-zero}
use Rattle.std.proofs.lemmas.Nat.{le-div, div_below}
use Rattle.log_chain.specs.Chain.{start, chain, whole_log}
use Rattle.log_chain.proofs.Extend.{IsSquare, extend_is}
use Rattle.log_chain.proofs.WholeLog.{whole_log_fits, whole_log_next}
use Rattle.log_chain.proofs.Powers.{pow-one, pow-double}
use Rattle.log_chain.proofs.Products.{below_squared, above_squared, loss_squared}

-- how far the cuts at the start and in k squarings can have lowered the rest, in units of 1 / 2 ^ 62 of it
abbrev pub loss : ℕ → ℕ
loss zero = 1
loss (suc k) = 2 * loss k + 1

pub loss_is : (k : ℕ) → loss k + 1 ≡ 2 * 2 ^ k
loss_is zero = refl
loss_is (suc k) = rw pow-suc (omega (arith, loss_is k))

-- P and Q are the powers of p and q, c and y the digits and the rest at level k
pub record Encloses (P Q k c y : ℕ) : Type 0 where
  pub least : 2 ^ 62 ≤ y
  pub most : y < 2 ^ 63
  pub below : 2 ^ c * y * P ≤ Q * 2 ^ 62
  pub above : Q * (2 ^ 62 - loss k) ≤ 2 ^ c * y * P

pub square_encloses : (P Q k c y c' y' : ℕ) → IsSquare c y c' y' → Encloses P Q k c y → Encloses (P * P) (Q * Q) (suc k) c' y'
square_encloses P Q k c y c' y' s h = record {
  least = s.least;
  most = s.most;
  below = below_squared (2 ^ c) (2 ^ c') (2 ^ 62) s.scale P Q y y' (omega arith) s.twice s.low h.below;
  above = above_squared (2 ^ c) (2 ^ c') (2 ^ 62) s.scale P Q (2 ^ 62 - loss k) (2 ^ 62 - loss (suc k)) y y'
      (omega arith) s.twice s.high s.least (loss_squared (2 ^ 62) (loss k)) h.above;
}

loss_squared_zero : (D : ℕ) → (D + 1) * (D - 1) ≤ D * D
loss_squared_zero D = let h = loss_squared D 0 in rw sub-zero at h

start_above : (D W q y : ℕ) → D ≤ y → q * D ≤ W * (y + 1) → q * (D - 1) ≤ W * y
start_above D W q y low h =
    let a : D * (q * D) ≤ D * (W * (y + 1)) = mul-le-mul_left D h in
    let b : W * (D * (y + 1)) ≤ W * ((D + 1) * y) = mul-le-mul_left W (omega arith) in
    let c : q * ((D + 1) * (D - 1)) ≤ q * (D * D) = mul-le-mul_left q (loss_squared_zero D) in
    let d : (D + 1) * (q * (D - 1)) ≤ (D + 1) * (W * y) = omega arith in
    le_of_mul-le-mul_left d (omega arith)

-- over W, which is p * 2 ^ e
start_is : (p q e W : ℕ) → W ≡ p * 2 ^ e → 0 < W → W ≤ q → q < W * 2 → Encloses p q 0 e (q * 2 ^ 62 / W)
start_is p q e W same pos low high =
    let y = q * 2 ^ 62 / W in
    let le : W * y ≤ q * 2 ^ 62 = mul-div-le (q * 2 ^ 62) W in
    let gt : q * 2 ^ 62 < W * (y + 1) = lt-mul-div-succ (q * 2 ^ 62) pos in
    let least : 2 ^ 62 ≤ y = le-div (2 ^ 62) (q * 2 ^ 62) W pos (omega arith) in
    let turn : 2 ^ e * y * p ≡ W * y = rw same (omega arith) in
    record {
      least = least;
      most = div_below (q * 2 ^ 62) W (2 ^ 63) pos (omega arith);
      below = omega arith;
      above = rw turn (start_above (2 ^ 62) W q y least (omega arith));
    }

start_encloses : (p q : ℕ) → 0 < p → p ≤ q → q < 2 ^ 64 → Encloses (p ^ 1) (q ^ 1) 0 (start p q).digits (start p q).rest
unfolding start
start_encloses p q pos le fits =
    let e = whole_log p q 63 in
    let top : q < p * 2 ^ 64 = omega arith in
    let next : q < p * 2 ^ suc e = whole_log_next p q 63 top in
    let two : p * 2 ^ suc e ≡ p * 2 ^ e * 2 = ap (λ n. p * n) (pow-suc 2 e) ∙ omega arith in
    rw (pow-one p, pow-one q) (start_is p q e (p * 2 ^ e) refl (mul-pos pos (pow_pos e)) (whole_log_fits p q 63 le) (omega arith))

pub chain_encloses : (p q k : ℕ) → 0 < p → p ≤ q → q < 2 ^ 64 → Encloses (p ^ (2 ^ k)) (q ^ (2 ^ k)) k (chain p q k).digits (chain p q k).rest
unfolding chain
chain_encloses p q zero pos le fits = start_encloses p q pos le fits
chain_encloses p q (suc k) pos le fits =
    let h = chain_encloses p q k pos le fits in
    rw (pow-double p k, pow-double q k) (square_encloses (p ^ (2 ^ k)) (q ^ (2 ^ k)) k _ _ _ _ (extend_is (chain p q k) h.least h.most) h)

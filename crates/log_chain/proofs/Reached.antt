-- What the program keeps: its digits and its rest are those of the chain.
use Rattle.std.proofs.Common.{◌≡◌, ℕ, suc, ◌+◌, ◌*◌, ◌/◌, ◌%◌, ◌^◌, ◌<◌, ◌≤◌, arith, ap, refl, subst, sym, ◌∙◌, pow-suc, mod-eq_of_lt, mul-le-mul_left, add-one, ap₂, pow_mono}
use Rattle.std.proofs.Math.Nat.{mul-div-le, lt-mul-div-succ}
use Rattle.std.proofs.lemmas.Nat.{mul-lt}
use Rattle.log_chain.proofs.Bounds.{chain_small}
use Rattle.log_chain.specs.Chain.{Chain, extend, start, chain, whole_log}
use Rattle.log_chain.specs.Progress.{IsReached}
use Rattle.log_chain.proofs.WholeLog.{whole_log_is}
use Rattle.log_chain.proofs.Extend.{extend_small, extend_large}
use Rattle.log_chain.proofs.Enclosure.{chain_encloses}

-- the whole part of the logarithm is that of the quotient's whole part
start_whole : (p q e : ℕ) → 0 < p → 2 ^ e ≤ q / p → q / p < 2 * 2 ^ e → e < 64 → (p * 2 ^ e ≤ q) × (whole_log p q 63 ≡ e)
start_whole p q e pos low high bound =
    let a : p * 2 ^ e ≤ p * (q / p) = mul-le-mul_left p low in
    let b : p * (q / p) ≤ q = mul-div-le q p in
    let c : q < p * (q / p + 1) = lt-mul-div-succ q pos in
    let d : p * (q / p + 1) ≤ p * (2 * 2 ^ e) = mul-le-mul_left p (omega arith) in
    let two : p * 2 ^ suc e ≡ p * (2 * 2 ^ e) = ap (λ n. p * n) (pow-suc 2 e) ∙ omega arith in
    let fits : p * 2 ^ e ≤ q = omega arith in
    (fits, whole_log_is p q 63 e (omega arith) fits (omega arith))

pub start_reached : (p q e : ℕ) → 0 < p → p ≤ q → q < 2 ^ 64 → 2 ^ e ≤ q / p → q / p < 2 * 2 ^ e → e < 64
    → IsReached p q 0 e 0 (q * 2 ^ 62 % 2 ^ 128 / (p * 2 ^ e % 2 ^ 128))
unfolding chain start
start_reached p q e pos le fits low high bound =
    let is = start_whole p q e pos low high bound in
    let top : q * 2 ^ 62 % 2 ^ 128 ≡ q * 2 ^ 62 = mod-eq_of_lt (omega arith) in
    let bottom : p * 2 ^ e % 2 ^ 128 ≡ p * 2 ^ e = mod-eq_of_lt (omega (arith, is.0)) in
    record {
      few = omega arith;
      behind = omega arith;
      digits = omega (arith, is.1);
      rest = rw (top, bottom, is.1) refl;
    }

-- each number fits into a word, and so does what one squaring makes of it; the square into two
pub record Fits (k w d y : ℕ) : Type 0 where
  pub rest : y < 2 ^ 63
  pub square : y * y < 2 ^ 126
  pub next : k < 60 → 2 * d + 1 < 2 ^ 64
  pub digits : w * 2 ^ k + d < 2 ^ 66

pub reached_fits : {p q k w d y : ℕ} → 0 < p → p ≤ q → q < 2 ^ 64 → IsReached p q k w d y → Fits k w d y
reached_fits {p} {q} {k} {w} {d} {y} pos le fits h =
    let e = chain_encloses p q k pos le fits in
    let most : y < 2 ^ 63 = rw h.rest e.most in
    let more : 2 ^ (k + 6) ≤ 2 ^ 66 = (let le : k + 6 ≤ 66 = omega (arith, h.few) in pow_mono le) in
    let small = chain_small p q k in
    record {
      rest = most;
      square = mul-lt y y (2 ^ 63) (2 ^ 63) most most;
      next = λ less. let below : k ≤ 60 = omega arith in let power : 2 ^ k ≤ 2 ^ 60 = pow_mono below in omega (arith, h.behind, power);
      digits = rw h.digits (omega arith);
    }

-- and the digits are put together of both
pub reached_digits : {p q k w d y : ℕ} → 0 < p → p ≤ q → q < 2 ^ 64 → IsReached p q k w d y → w * 2 ^ k % 2 ^ 128 + d ≡ (chain p q k).digits
reached_digits {p} {q} {k} {w} {d} {y} pos le fits h =
    let f = reached_fits pos le fits h in
    let shifted : w * 2 ^ k % 2 ^ 128 ≡ w * 2 ^ k = mod-eq_of_lt (omega (arith, f.digits)) in
    rw shifted h.digits

extended : (p q k w d y b : ℕ) (n : Chain) → k < 60 → b ≤ 1 → IsReached p q k w d y → extend (record { digits = w * 2 ^ k + d; rest = y }) ≡ n
    → n.digits ≡ 2 * (w * 2 ^ k + d) + b → IsReached p q (k + 1) w (2 * d + b) n.rest
unfolding chain
extended p q k w d y b n less one h e is =
    let same : extend (chain p q k) ≡ n = ap₂ (λ (a b : ℕ). extend (record { digits = a; rest = b })) (sym h.digits) (sym h.rest) ∙ e in
    let twice : 2 ^ suc k ≡ 2 ^ k * 2 = pow-suc 2 k in
    let moved : w * 2 ^ suc k + (2 * d + b) ≡ 2 * (w * 2 ^ k + d) + b = rw twice (omega arith) in
    rw add-one (record {
      few = less;
      behind = omega (arith, h.behind, twice);
      digits = moved ∙ sym is ∙ ap (λ m. m.digits) (sym same);
      rest = ap (λ m. m.rest) (sym same);
    })

pub extended_small : (p q k w d y : ℕ) → k < 60 → IsReached p q k w d y → y * y < 2 ^ 125 → IsReached p q (k + 1) w (2 * d) (y * y / 2 ^ 62)
extended_small p q k w d y less h l =
    let none : 2 * d + 0 ≡ 2 * d = omega arith in
    subst (λ n. IsReached p q (k + 1) w n (y * y / 2 ^ 62)) none
    (extended p q k w d y 0 _ less (omega arith) h (extend_small (record { digits = w * 2 ^ k + d; rest = y }) l) (omega arith))

pub extended_large : (p q k w d y : ℕ) → k < 60 → IsReached p q k w d y → 2 ^ 125 ≤ y * y → IsReached p q (k + 1) w (2 * d + 1) (y * y / 2 ^ 63)
extended_large p q k w d y less h l =
    extended p q k w d y 1 _ less (omega arith) h (extend_large (record { digits = w * 2 ^ k + d; rest = y }) l) refl

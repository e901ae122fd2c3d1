-- A key encloses the logarithm of a number, and what multiplying, raising and choosing do to it.
use Rattle.std.proofs.Common.{◌≡◌, ℕ, ◌+◌, ◌*◌, ◌^◌, ◌<◌, ◌≤◌, arith, inl, inr, pow_pos, pow_mono, pow-add, mul-pos, mul-le-mul_left, mul-le-mul_right, mul-lt-mul_of_pos_right, mul_comm, min, le_of_lt}
use Rattle.std.specs.Prelude.{cond}
use Rattle.std.proofs.Math.Nat.{pow-le-pow_left, pow-lt-pow_left, pow-zero, ne_of_gt, one-le-pow, le_of_mul-le-mul_left, lt_of_mul-lt-mul_left, min-eq_left, min-eq_right}
use Rattle.std.proofs.lemmas.Bool.{cases_lt, cond-true, cond-false, lt-ltb, le-ltb}
use Rattle.std.proofs.lemmas.Nat.{mul-pow}
use Rattle.ri_base.specs.Ratio.{Ratio}
use Rattle.log_chain.proofs.Powers.{lower_product, lower_power, upper_product, upper_power, pow-mul, pow-pow_comm, one-pow}
use Rattle.belief_nodes.specs.Products.{one, times, power, is_greater}
use Rattle.belief_nodes.proofs.Kept.{IsKept}

-- k encloses n times the logarithm of q / p to base 2, with the width 2 * e
pub record Encloses (n : ℕ) (r : Ratio) (k e : ℕ) : Type 0 where
  pub positive : 0 < r.p
  pub lower : 2 ^ k * r.p ^ n ≤ r.q ^ n
  pub upper : r.q ^ n ≤ 2 ^ (k + 2 * e) * r.p ^ n
  pub strict : 0 < e → r.q ^ n < 2 ^ (k + 2 * e) * r.p ^ n

product_strict : (P Q P' Q' c c' : ℕ) → 0 < P' → Q < 2 ^ c * P → Q' ≤ 2 ^ c' * P' → Q * Q' < 2 ^ (c + c') * (P * P')
product_strict P Q P' Q' c c' pos h h' = rw pow-add (
    let a : Q * Q' ≤ Q * (2 ^ c' * P') = mul-le-mul_left Q h' in
    let b : Q * (2 ^ c' * P') < (2 ^ c * P) * (2 ^ c' * P') = mul-lt-mul_of_pos_right h (mul-pos (pow_pos c') pos) in
    omega arith)

product_strict_right : (P Q P' Q' c c' : ℕ) → 0 < P → Q ≤ 2 ^ c * P → Q' < 2 ^ c' * P' → Q * Q' < 2 ^ (c + c') * (P * P')
product_strict_right P Q P' Q' c c' pos h h' =
    let a : Q' * Q < 2 ^ (c' + c) * (P' * P) = product_strict P' Q' P Q c' c pos h' h in
    rw (mul_comm Q Q', mul_comm P P', (let e : c + c' ≡ c' + c = omega arith in e)) a

power_strict : (P Q c a : ℕ) → 0 < a → Q < 2 ^ c * P → Q ^ a < 2 ^ (c * a) * P ^ a
power_strict P Q c a pos h =
    let b : Q ^ a < (2 ^ c * P) ^ a = pow-lt-pow_left h (ne_of_gt pos) in
    let d : Q ^ a < (2 ^ c) ^ a * P ^ a = rw mul-pow at b in
    rw pow-mul d

pub encloses_one : (n e : ℕ) → Encloses n one 0 e
encloses_one n e = record {
  positive = omega arith;
  lower = omega (arith, pow-zero 2);
  upper = (let a : 1 ≤ 2 ^ (0 + 2 * e) = pow_pos (0 + 2 * e) in rw one-pow (omega arith));
  strict = λ h. (let a : 2 ^ 1 ≤ 2 ^ (0 + 2 * e) = (let l : 1 ≤ 0 + 2 * e = omega arith in pow_mono l) in rw one-pow (omega arith));
}

encloses_times : (n : ℕ) (r s : Ratio) (k l e f : ℕ) → Encloses n r k e → Encloses n s l f → Encloses n (times r s) (k + l) (e + f)
encloses_times n r s k l e f h h' =
    let width : k + l + 2 * (e + f) ≡ (k + 2 * e) + (l + 2 * f) = omega arith in
    record {
      positive = mul-pos h.positive h'.positive;
      lower = rw (mul-pow, mul-pow) (lower_product _ _ _ _ _ _ h.lower h'.lower);
      upper = rw (width, mul-pow, mul-pow) (upper_product _ _ _ _ _ _ h.upper h'.upper);
      strict = λ some. rw (width, mul-pow, mul-pow) (elim (cases_lt 0 e) [
        | inl a ↦ product_strict _ _ _ _ _ _ (one-le-pow n s.p h'.positive) (h.strict a) h'.upper
        | inr a ↦ product_strict_right _ _ _ _ _ _ (one-le-pow n r.p h.positive) h.upper (h'.strict (omega arith))
      ]);
    }

encloses_power : (n : ℕ) (r : Ratio) (a k e : ℕ) → Encloses n r k e → Encloses n (power r a) (a * k) (a * e)
encloses_power n r a k e h =
    let width : a * k + 2 * (a * e) ≡ (k + 2 * e) * a = omega arith in
    let turned : a * k ≡ k * a = omega arith in
    record {
      positive = one-le-pow a r.p h.positive;
      lower = rw (turned, pow-pow_comm r.p a n, pow-pow_comm r.q a n) (lower_power _ _ k a h.lower);
      upper = rw (width, pow-pow_comm r.p a n, pow-pow_comm r.q a n) (upper_power _ _ _ a h.upper);
      strict = λ some. rw (width, pow-pow_comm r.p a n, pow-pow_comm r.q a n) (elim (cases_lt 0 a) [
        | inl pos ↦ (elim (cases_lt 0 e) [
          | inl x ↦ power_strict _ _ _ a pos (h.strict x)
          | inr x ↦ (let z : e ≡ 0 = omega arith in let y : a * e ≡ 0 = rw z (omega arith) in absurd (omega arith))
        ])
        | inr none ↦ (let z : a ≡ 0 = omega arith in let y : a * e ≡ 0 = rw z (omega arith) in absurd (omega arith))
      ]);
    }

-- X / S is at most Y / T, and Y is at most A times T: so X is at most A times S
through : (S X T Y A : ℕ) → 0 < T → T * X ≤ S * Y → Y ≤ A * T → X ≤ A * S
through S X T Y A pos h up =
    let a : S * Y ≤ S * (A * T) = mul-le-mul_left S up in
    let b : T * X ≤ T * (A * S) = omega arith in
    le_of_mul-le-mul_left b pos

through_strict : (S X T Y A : ℕ) → 0 < T → 0 < S → T * X ≤ S * Y → Y < A * T → X < A * S
through_strict S X T Y A pos some h up =
    let a : Y * S < A * T * S = mul-lt-mul_of_pos_right up some in
    let b : T * X < T * (A * S) = omega arith in
    lt_of_mul-lt-mul_left T b

-- the greater of two numbers is enclosed by the lesser key too
encloses_less : (n : ℕ) (r s : Ratio) (k l e : ℕ) → l ≤ k → s.p * r.q ≤ r.p * s.q → Encloses n r k e → Encloses n s l e → Encloses n r l e
encloses_less n r s k l e le more h h' =
    let w : (s.p * r.q) ^ n ≤ (r.p * s.q) ^ n = pow-le-pow_left more n in
    let x : s.p ^ n * r.q ^ n ≤ r.p ^ n * s.q ^ n = rw (mul-pow, mul-pow) at w in
    let y : 2 ^ l * r.p ^ n ≤ 2 ^ k * r.p ^ n = mul-le-mul_right (r.p ^ n) (pow_mono le) in
    record {
      positive = h.positive;
      lower = omega (arith, h.lower);
      upper = through _ _ _ _ _ (one-le-pow n s.p h'.positive) x h'.upper;
      strict = λ some. through_strict _ _ _ _ _ (one-le-pow n s.p h'.positive) (one-le-pow n r.p h.positive) x (h'.strict some);
    }

greater_second : (r s : Ratio) → r.p * s.q < s.p * r.q → cond (is_greater s r) s r ≡ s
greater_second r s h = cond-true _ _ _ (lt-ltb (r.p * s.q) (s.p * r.q) h)

greater_first : (r s : Ratio) → s.p * r.q ≤ r.p * s.q → cond (is_greater s r) s r ≡ r
greater_first r s h = cond-false _ _ _ (le-ltb (r.p * s.q) (s.p * r.q) h)

encloses_greater : (n : ℕ) (r s : Ratio) (k l e : ℕ) → Encloses n r k e → Encloses n s l e → Encloses n (cond (is_greater s r) s r) (min k l) e
encloses_greater n r s k l e h h' = elim (cases_lt (r.p * s.q) (s.p * r.q)) [
  | inl less ↦ rw (greater_second r s less) (elim (cases_lt l k) [
    | inl x ↦ rw (min-eq_right (le_of_lt x)) h'
    | inr x ↦ rw (min-eq_left x) (encloses_less n s r l k e x (le_of_lt less) h' h)
  ])
  | inr most ↦ rw (greater_first r s most) (elim (cases_lt l k) [
    | inl x ↦ rw (min-eq_right (le_of_lt x)) (encloses_less n r s k l e (le_of_lt x) most h h')
    | inr x ↦ rw (min-eq_left x) h
  ])
]

pub encloses_kept : (n : ℕ) → IsKept (λ r k l e. Encloses n r k e)
encloses_kept n = record {
  empty = λ e. encloses_one n e;
  added = λ r s k k' l l' e f h h'. encloses_times n r s k k' e f h h';
  taken = λ r a k l e h. encloses_power n r a k e h;
  chosen = λ r s k k' l l' e h h'. encloses_greater n r s k k' e h h';
}

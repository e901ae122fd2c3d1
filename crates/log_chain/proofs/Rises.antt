-- A larger number has digits at least as great.
use Rattle.std.proofs.Common.{ap₂, ◌≡◌, ℕ, zero, suc, ◌*◌, ◌/◌, ◌^◌, ◌<◌, ◌≤◌, arith, inl, inr, mul-le-mul, mul-pos, pow_pos, eq-or-lt_of_le, mul-le-mul_left}
use Rattle.std.proofs.lemmas.Bool.{cases_lt}
use Rattle.log_chain.specs.Chain.{Chain, extend, start, chain, whole_log, IsAtMost}
use Rattle.log_chain.proofs.Extend.{extend_half, extend_small, extend_large}
use Rattle.log_chain.proofs.WholeLog.{whole_log_rises, div_rises}

extend_more : (a b : Chain) → a.digits < b.digits → (extend a).digits < (extend b).digits
extend_more a b h = omega (arith, extend_half a, extend_half b)

extend_same : (a b : Chain) → a.digits ≡ b.digits → a.rest ≤ b.rest → IsAtMost (extend a) (extend b)
extend_same a b e h =
    let l : a.rest * a.rest ≤ b.rest * b.rest = mul-le-mul h h in
    elim (cases_lt (a.rest * a.rest) (2 ^ 125)) [
      | inl x ↦ elim (cases_lt (b.rest * b.rest) (2 ^ 125)) [
        | inl y ↦ rw (extend_small a x, extend_small b y) (inr (omega arith, div_rises _ _ _ _ (omega arith) (omega arith) (omega arith)))
        | inr y ↦ rw (extend_small a x, extend_large b y) (inl (omega arith))
      ]
      | inr x ↦ (let y : 2 ^ 125 ≤ b.rest * b.rest = omega arith in
          rw (extend_large a x, extend_large b y) (inr (omega arith, div_rises _ _ _ _ (omega arith) (omega arith) (omega arith))))
    ]

pub extend_rises : (a b : Chain) → IsAtMost a b → IsAtMost (extend a) (extend b)
extend_rises a b h = elim h [
  | inl less ↦ inl (extend_more a b less)
  | inr same ↦ extend_same a b same.0 same.1
]

-- over the two powers of 2
rests_rise : (p q s t e : ℕ) → 0 < p → 0 < s → q * s ≤ t * p → q * 2 ^ 62 / (p * 2 ^ e) ≤ t * 2 ^ 62 / (s * 2 ^ e)
rests_rise p q s t e pos pos' h =
    let w : (2 ^ 62 * 2 ^ e) * (q * s) ≤ (2 ^ 62 * 2 ^ e) * (t * p) = mul-le-mul_left _ h in
    div_rises (q * 2 ^ 62) (p * 2 ^ e) (t * 2 ^ 62) (s * 2 ^ e) (mul-pos pos (pow_pos e)) (mul-pos pos' (pow_pos e)) (omega arith)

start_rises : (p q s t : ℕ) → 0 < p → 0 < s → q * s ≤ t * p → IsAtMost (start p q) (start s t)
unfolding start
start_rises p q s t pos pos' h = elim (eq-or-lt_of_le (whole_log_rises p q s t 63 pos h)) [
  | inl same ↦ inr (same, rw same (rests_rise p q s t (whole_log s t 63) pos pos' h))
  | inr less ↦ inl less
]

-- where t / s is at least q / p
pub chain_rises : (p q s t k : ℕ) → 0 < p → 0 < s → q * s ≤ t * p → IsAtMost (chain p q k) (chain s t k)
unfolding chain
chain_rises p q s t zero pos pos' h = start_rises p q s t pos pos' h
chain_rises p q s t (suc k) pos pos' h = extend_rises (chain p q k) (chain s t k) (chain_rises p q s t k pos pos' h)

pub chain_digits_rise : (p q s t k : ℕ) → 0 < p → 0 < s → q * s ≤ t * p → (chain p q k).digits ≤ (chain s t k).digits
chain_digits_rise p q s t k pos pos' h = elim (chain_rises p q s t k pos pos' h) [
  | inl less ↦ omega arith
  | inr same ↦ omega arith
]

-- where each is at most the other, both are the same
both_at_most : (a b : Chain) → IsAtMost a b → IsAtMost b a → (a.digits ≡ b.digits) × (a.rest ≡ b.rest)
both_at_most a b h h' = elim h [
  | inl less ↦ elim h' [ inl more ↦ absurd (omega arith) | inr same ↦ absurd (omega arith) ]
  | inr same ↦ elim h' [ inl more ↦ absurd (omega arith) | inr back ↦ (same.0, omega arith) ]
]

-- one number has one chain, however its fraction is written
pub chain_same : (p q s t k : ℕ) → 0 < p → 0 < s → q * s ≡ t * p → chain p q k ≡ chain s t k
chain_same p q s t k pos pos' h =
    let both = both_at_most (chain p q k) (chain s t k) (chain_rises p q s t k pos pos' (omega arith)) (chain_rises s t p q k pos' pos (omega arith)) in
    ap₂ (λ (c y : ℕ). record { digits = c; rest = y }) both.0 both.1

-- The whole part of the logarithm: the greatest power of 2 that q / p reaches.
use Rattle.std.proofs.Common.{◌≡◌, ℕ, zero, suc, ◌*◌, ◌/◌, ◌^◌, ◌<◌, ◌≤◌, arith, refl, subst, ◌∙◌, inl, inr, le-leb, eq-or-lt_of_le, mul-le-mul_left, pow_mono}
use Rattle.std.proofs.Math.Nat.{le_of_mul-le-mul_left, mul-div-le}
use Rattle.std.proofs.lemmas.Bool.{cases_lt, cond-true, cond-false, lt-leb}
use Rattle.std.proofs.lemmas.Nat.{le-div}
use Rattle.log_chain.specs.Chain.{whole_log}

pub whole_log_zero : (p q : ℕ) → whole_log p q 0 ≡ 0
unfolding whole_log
whole_log_zero p q = refl

pub whole_log_here : (p q n : ℕ) → p * 2 ^ suc n ≤ q → whole_log p q (suc n) ≡ suc n
unfolding whole_log
whole_log_here p q n h = cond-true _ _ _ (le-leb (p * 2 ^ suc n) q h)

pub whole_log_below : (p q n : ℕ) → q < p * 2 ^ suc n → whole_log p q (suc n) ≡ whole_log p q n
unfolding whole_log
whole_log_below p q n h = cond-false _ _ _ (lt-leb (p * 2 ^ suc n) q h)

-- it is at most n
pub whole_log_le : (p q n : ℕ) → whole_log p q n ≤ n
whole_log_le p q zero = rw whole_log_zero (omega arith)
whole_log_le p q (suc n) = elim (cases_lt q (p * 2 ^ suc n)) [
  | inl h ↦ rw (whole_log_below p q n h) (omega (arith, whole_log_le p q n))
  | inr h ↦ rw (whole_log_here p q n h) (omega arith)
]

-- its power of 2 is at most q / p
pub whole_log_fits : (p q n : ℕ) → p ≤ q → p * 2 ^ whole_log p q n ≤ q
whole_log_fits p q zero h = rw whole_log_zero (omega arith)
whole_log_fits p q (suc n) h = elim (cases_lt q (p * 2 ^ suc n)) [
  | inl l ↦ rw (whole_log_below p q n l) (whole_log_fits p q n h)
  | inr l ↦ rw (whole_log_here p q n l) l
]

-- and the next is above it
pub whole_log_next : (p q n : ℕ) → q < p * 2 ^ suc n → q < p * 2 ^ suc (whole_log p q n)
whole_log_next p q zero h = rw whole_log_zero h
whole_log_next p q (suc n) h = elim (cases_lt q (p * 2 ^ suc n)) [
  | inl l ↦ rw (whole_log_below p q n l) (whole_log_next p q n l)
  | inr l ↦ rw (whole_log_here p q n l) h
]

-- no other has both
pub whole_log_is : (p q n e : ℕ) → e ≤ n → p * 2 ^ e ≤ q → q < p * 2 ^ suc e → whole_log p q n ≡ e
whole_log_is p q zero e l low high = whole_log_zero p q ∙ omega arith
whole_log_is p q (suc n) e l low high = elim (cases_lt q (p * 2 ^ suc n)) [
  | inl h ↦ rw (whole_log_below p q n h) (whole_log_is p q n e (apart p q e n l low h) low high)
  | inr h ↦ rw (whole_log_here p q n h) (reach p q e n l h high)
]
  where
    apart : (p q e n : ℕ) → e ≤ suc n → p * 2 ^ e ≤ q → q < p * 2 ^ suc n → e ≤ n
    apart p q e n l low h = elim (eq-or-lt_of_le l) [
      | inl same ↦ (let here : p * 2 ^ suc n ≤ q = subst (λ (m : ℕ). p * 2 ^ m ≤ q) same low in absurd (omega arith))
      | inr less ↦ omega arith
    ]

    reach : (p q e n : ℕ) → e ≤ suc n → p * 2 ^ suc n ≤ q → q < p * 2 ^ suc e → suc n ≡ e
    reach p q e n l h high = elim (cases_lt e (suc n)) [
      | inl less ↦ (let up : p * 2 ^ suc e ≤ p * 2 ^ suc n = mul-le-mul_left p (pow_mono less) in absurd (omega arith))
      | inr more ↦ omega arith
    ]

-- where t / s is at least q / p, a power of 2 that q / p reaches is one that t / s reaches
fits_too : (p q s t w : ℕ) → 0 < p → q * s ≤ t * p → p * w ≤ q → s * w ≤ t
fits_too p q s t w pos h l =
    let a : s * (p * w) ≤ s * q = mul-le-mul_left s l in
    let b : p * (s * w) ≤ p * t = omega arith in
    le_of_mul-le-mul_left b pos

-- so a larger number has a logarithm whose whole part is at least as great
pub whole_log_rises : (p q s t n : ℕ) → 0 < p → q * s ≤ t * p → whole_log p q n ≤ whole_log s t n
whole_log_rises p q s t zero pos h = rw whole_log_zero (omega arith)
whole_log_rises p q s t (suc n) pos h = elim (cases_lt q (p * 2 ^ suc n)) [
  | inl a ↦ elim (cases_lt t (s * 2 ^ suc n)) [
    | inl b ↦ rw (whole_log_below p q n a, whole_log_below s t n b) (whole_log_rises p q s t n pos h)
    | inr b ↦ rw (whole_log_below p q n a, whole_log_here s t n b) (omega (arith, whole_log_le p q n))
  ]
  | inr a ↦ (let b : s * 2 ^ suc n ≤ t = fits_too p q s t (2 ^ suc n) pos h a in rw (whole_log_here p q n a, whole_log_here s t n b) (omega arith))
]

-- a quotient rises with the number
pub div_rises : (a b c d : ℕ) → 0 < b → 0 < d → a * d ≤ c * b → a / b ≤ c / d
div_rises a b c d p q h = le-div (a / b) c d q (
    let l : d * (b * (a / b)) ≤ d * a = mul-le-mul_left d (mul-div-le a b) in
    let m : b * (a / b * d) ≤ b * c = omega arith in
    le_of_mul-le-mul_left m p)

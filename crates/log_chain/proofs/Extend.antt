-- What one squaring does.
use Rattle.std.proofs.Common.{◌≡◌, ℕ, ◌+◌, ◌*◌, ◌/◌, ◌^◌, ◌<◌, ◌≤◌, arith, ap, ◌∙◌, inl, inr, lt-ltb, le-ltb, pow-add, mul-le-mul}
use Rattle.std.proofs.lemmas.Bool.{cases_lt, cond-true, cond-false}
use Rattle.std.proofs.lemmas.Nat.{le-div, div_below, mul-lt}
use Rattle.log_chain.specs.Chain.{Chain, extend}

-- one squaring from c digits and y to c' digits and y', in one form for both cases: the scale is 2 ^ 62 or 2 ^ 63
pub record IsSquare (c y c' y' : ℕ) : Type 0 where
  pub scale : ℕ
  pub twice : 2 ^ c' * 2 ^ 62 ≡ 2 ^ c * 2 ^ c * scale
  pub low : scale * y' ≤ y * y
  pub high : y * y ≤ scale * (y' + 1)
  pub least : 2 ^ 62 ≤ y'
  pub most : y' < 2 ^ 63

pow-twice : (c : ℕ) → 2 ^ (2 * c) ≡ 2 ^ c * 2 ^ c
pow-twice c = let e : 2 * c ≡ c + c = omega arith in rw e (pow-add 2 c c)

pow-twice_more : (c : ℕ) → 2 ^ (2 * c + 1) ≡ 2 ^ c * 2 ^ c * 2
pow-twice_more c = pow-add 2 (2 * c) 1 ∙ ap (λ n. n * 2) (pow-twice c)

pub extend_small : (c : Chain) → c.rest * c.rest < 2 ^ 125 → extend c ≡ record { digits = 2 * c.digits; rest = c.rest * c.rest / 2 ^ 62 }
unfolding extend
extend_small c h = cond-true _ _ _ (lt-ltb (c.rest * c.rest) (2 ^ 125) h)

pub extend_large : (c : Chain) → 2 ^ 125 ≤ c.rest * c.rest → extend c ≡ record { digits = 2 * c.digits + 1; rest = c.rest * c.rest / 2 ^ 63 }
unfolding extend
extend_large c h = cond-false _ _ _ (le-ltb (c.rest * c.rest) (2 ^ 125) h)

square_small : (c y : ℕ) → 2 ^ 62 ≤ y → y * y < 2 ^ 125 → IsSquare c y (2 * c) (y * y / 2 ^ 62)
square_small c y low h = record {
  scale = 2 ^ 62;
  twice = ap (λ n. n * 2 ^ 62) (pow-twice c);
  low = omega arith;
  high = omega arith;
  least = le-div (2 ^ 62) (y * y) (2 ^ 62) (omega arith) (mul-le-mul low low);
  most = div_below (y * y) (2 ^ 62) (2 ^ 63) (omega arith) h;
}

square_large : (c y : ℕ) → y < 2 ^ 63 → 2 ^ 125 ≤ y * y → IsSquare c y (2 * c + 1) (y * y / 2 ^ 63)
square_large c y high h = record {
  scale = 2 ^ 63;
  twice = ap (λ n. n * 2 ^ 62) (pow-twice_more c) ∙ omega arith;
  low = omega arith;
  high = omega arith;
  least = le-div (2 ^ 62) (y * y) (2 ^ 63) (omega arith) h;
  most = div_below (y * y) (2 ^ 63) (2 ^ 63) (omega arith) (mul-lt y y (2 ^ 63) (2 ^ 63) high high);
}

-- one squaring keeps y in its range
pub extend_is : (c : Chain) → 2 ^ 62 ≤ c.rest → c.rest < 2 ^ 63 → IsSquare c.digits c.rest (extend c).digits (extend c).rest
extend_is c low high = elim (cases_lt (c.rest * c.rest) (2 ^ 125)) [
  | inl h ↦ rw (extend_small c h) (square_small c.digits c.rest low h)
  | inr h ↦ rw (extend_large c h) (square_large c.digits c.rest high h)
]

-- the digits without the last are the digits before
pub extend_half : (c : Chain) → (extend c).digits / 2 ≡ c.digits
extend_half c = elim (cases_lt (c.rest * c.rest) (2 ^ 125)) [
  | inl h ↦ rw (extend_small c h) (omega arith)
  | inr h ↦ rw (extend_large c h) (omega arith)
]

-- The logarithm to base 2 of a number x = q / p of at least 1, digit by digit. Its whole part comes first, and then each
-- squaring gives one digit more: the method of Knuth, The Art of Computer Programming, volume 1, section 1.2.2, in base 2.
-- That a rest has 62 bits behind its point, and is cut there, is this project's own.
use Rattle.std.specs.Prelude.{◌≡◌, ◌⊎◌, ◌<◌, ◌≤◌, ℕ, zero, suc, ◌+◌, ◌*◌, ◌/◌, ◌^◌, nat_lt, nat_le, if◌then◌else◌}

-- after k squarings: the whole part of the logarithm of x ^ (2 ^ k), and what is left of x ^ (2 ^ k) when it is divided
-- by that power of 2, from 1 to below 2 and in units of 1 / 2 ^ 62
pub record Chain : Type 0 where
  pub digits : ℕ
  pub rest : ℕ

-- the greatest e up to n with p * 2 ^ e ≤ q
unfoldable pub whole_log : ℕ → ℕ → ℕ → ℕ
whole_log p q zero = 0
whole_log p q (suc n) = if nat_le (p * 2 ^ suc n) q then suc n else whole_log p q n

-- before any squaring, for numbers of 64 bits
unfoldable pub start : ℕ → ℕ → Chain
start p q = let e = whole_log p q 63 in record { digits = e; rest = q * 2 ^ 62 / (p * 2 ^ e) }

-- one squaring: the square of the rest is below 2 or not, in units of 1 / 2 ^ 124
unfoldable pub extend : Chain → Chain
extend c =
    let z = c.rest * c.rest in
    if nat_lt z (2 ^ 125)
    then record { digits = 2 * c.digits; rest = z / 2 ^ 62 }
    else record { digits = 2 * c.digits + 1; rest = z / 2 ^ 63 }

-- after k squarings
unfoldable pub chain : ℕ → ℕ → ℕ → Chain
chain p q zero = start p q
chain p q (suc k) = extend (chain p q k)

-- fewer digits, or the same digits and a rest that is at most as great
abbrev pub IsAtMost : Chain → Chain → Type 0
IsAtMost a b = (a.digits < b.digits) ⊎ ((a.digits ≡ b.digits) × (a.rest ≤ b.rest))

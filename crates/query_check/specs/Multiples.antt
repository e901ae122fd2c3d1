-- Greatest common divisors and least common multiples of whole numbers.
use Rattle.std.specs.Prelude.{ℕ, zero, suc, ◌*◌, ◌/◌, ◌%◌, List, [], ◌∷◌}

-- what Euclid's algorithm finds in so many steps
unfoldable pub gcd_within : ℕ → ℕ → ℕ → ℕ
gcd_within zero a b = a
gcd_within (suc n) a zero = a
gcd_within (suc n) a (suc b) = gcd_within n (suc b) (a % suc b)

-- the greatest common divisor; that of 0 and a number is this number
unfoldable pub gcd : ℕ → ℕ → ℕ
gcd a b = gcd_within b a b

-- the least common multiple
unfoldable pub lcm : ℕ → ℕ → ℕ
lcm a b = a * (b / gcd a b)

-- the greatest common divisor of a list; 0 of an empty one
unfoldable pub common_divisor : List ℕ → ℕ
common_divisor [] = 0
common_divisor (a ∷ rest) = gcd a (common_divisor rest)

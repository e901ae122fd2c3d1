-- What is below the limit of a scale.
use Rattle.std.proofs.Common.{◌≡◌, ℕ, ◌<◌, ◌≤◌, ◌^◌, Some, None, arith}
use Rattle.std.proofs.lemmas.Bool.Decides.{nat_tests}
use Rattle.query_check.specs.Limit.{below_limit}

pub below_is : (n : ℕ) → n < 2 ^ 60 → below_limit n ≡ Some n
unfolding below_limit
below_is n h = grind (arith, nat_tests)

pub beyond_is : (n : ℕ) → 2 ^ 60 ≤ n → below_limit n ≡ None
unfolding below_limit
beyond_is n h = grind (arith, nat_tests)

-- what an answer within the limit tells
pub is_below : (n k : ℕ) → below_limit n ≡ Some k → (k ≡ n) × (n < 2 ^ 60)
unfolding below_limit
is_below n k h = (grind (arith, nat_tests), grind (arith, nat_tests))

pub is_beyond : (n : ℕ) → below_limit n ≡ None → 2 ^ 60 ≤ n
unfolding below_limit
is_beyond n h = grind (arith, nat_tests)

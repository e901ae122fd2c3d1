-- Values of digits.
use Rattle.std.proofs.Common.{ℕ, zero, suc, ◌≡◌, ◌<◌, ◌≤◌, ◌+◌, ◌-◌, ◌*◌, true, List, [], ◌∷◌, length, arith}
use Rattle.std.proofs.Math.Nat.{mul-le-mul_left, mul-le-mul_right}
use Rattle.std.specs.List.{list_all}
use Rattle.ri_base.specs.Ascii.{is_digit}
use Rattle.line_parts.specs.Digits.{value_from}
use Rattle.prior_lines.specs.Numbers.{is_number}

abbrev tens : ℕ → ℕ
tens zero = 1
tens (suc k) = 10 * tens k

tens_some : (k : ℕ) → 0 < tens k
tens_some zero = omega arith
tens_some (suc k) = let further = tens_some k in omega (arith, further)

-- of at most k digits the value is below 10^k
value_below : (k n : ℕ) (digits : List ℕ) → length digits ≤ k → list_all is_digit digits ≡ true → value_from n digits < (n + 1) * tens k
value_below k n [] le all = let big : (n + 1) * 1 ≤ (n + 1) * tens k = mul-le-mul_left (n + 1) (tens_some k) in omega (arith, big)
value_below zero n (d ∷ digits) le all = absurd (omega arith)
value_below (suc k) n (d ∷ digits) le all =
    let digit : d ≤ 57 = grind (arith, all) in
    let others : list_all is_digit digits ≡ true = grind (arith, all) in
    let further = value_below k (n * 10 + (d - 48)) digits (omega arith) others in
    let step : n * 10 + (d - 48) + 1 ≤ (n + 1) * 10 = omega (arith, digit) in
    let grown : (n * 10 + (d - 48) + 1) * tens k ≤ (n + 1) * 10 * tens k = mul-le-mul_right (tens k) step in
    omega (arith, further, grown)

pub number_small : (text : List ℕ) → is_number text ≡ true → value_from 0 text < 1000000000000000000
number_small text is =
    let few : length text ≤ 18 = grind (arith, is) in
    let all : list_all is_digit text ≡ true = grind (arith, is) in
    omega (arith, value_below 18 0 text few all)

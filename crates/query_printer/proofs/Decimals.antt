-- Decimals, digit by digit.
use native.Mathlib.Numerals.{unary_clauses}
use Rattle.std.proofs.Common.{◌≡◌, ℕ, zero, suc, List, [], ◌∷◌, ◌++◌, ◌<◌, ◌≤◌, ◌+◌, ◌-◌, ◌/◌, ◌%◌, ◌^◌, false, arith, append-nil, append_assoc}
use Rattle.std.specs.Prelude.{◌==◌}
use Rattle.std.proofs.Math.Nat.{one-le-pow, pow-succ', div-lt_iff_lt-mul, mod-lt}
use Rattle.query_printer.specs.Printed.{decimals_of}

pub unit_pos : (k : ℕ) → 0 < 10 ^ k
unit_pos k = omega (arith, one-le-pow k 10 (omega arith))

not_zero : (n : ℕ) → 0 < n → (n == 0) ≡ false
not_zero n h = grind arith

pub nothing_left : (out : List ℕ) (k rest : ℕ) → rest ≤ 0 → out ++ decimals_of k rest ≡ out
unfolding decimals_of
nothing_left out zero rest h = append-nil out
nothing_left out (suc k) zero h = append-nil out
nothing_left out (suc k) (suc rest) h = absurd (omega arith)

pub some_left : (k rest : ℕ) → 0 < rest → rest < 10 ^ k → 0 < k
some_left zero rest h lt = absurd (omega (arith, lt))
some_left (suc k) rest h lt = omega arith

next_digit : (k rest : ℕ) → rest < 10 ^ suc k → rest / 10 ^ k < 10
next_digit k rest h = (div-lt_iff_lt-mul {k = 10 ^ k} {x = rest} {y = 10} (unit_pos k)).1 (rw (← pow-succ' 10 k) h)

pub digit_small : (k rest : ℕ) → 0 < k → rest < 10 ^ k → rest / 10 ^ (k - 1) < 10
digit_small zero rest h lt = absurd (omega arith)
digit_small (suc k) rest h lt = simp unary_clauses (next_digit k rest lt)

pub rest_small : (k rest : ℕ) → rest % 10 ^ k < 10 ^ k
rest_small k rest = mod-lt rest (unit_pos k)

pub next_decimal : (out : List ℕ) (k rest : ℕ) → 0 < rest → 0 < k → (out ++ (48 + rest / 10 ^ (k - 1)) ∷ []) ++ decimals_of (k - 1) (rest % 10 ^ (k - 1)) ≡ out ++ decimals_of k rest
unfolding decimals_of
next_decimal out zero rest h some = absurd (omega arith)
next_decimal out (suc k) rest h some = simp unary_clauses (rw (not_zero rest h) (append_assoc out ((48 + rest / 10 ^ k) ∷ []) (decimals_of k (rest % 10 ^ k))))

-- Values of digits.
use Rattle.std.proofs.Common.{ℕ, zero, suc, ◌≡◌, ◌<◌, ◌≤◌, ◌+◌, ◌-◌, ◌*◌, Bool, true, false, List, [], ◌∷◌, drop, length, get_or, refl, arith}
use Rattle.std.specs.Prelude.{Some, None, if◌then◌else◌, nat_le, ◌==◌, ◌&&◌, not}
use Rattle.std.specs.List.{list_all}
use Rattle.ri_base.specs.Ascii.{is_digit}
use Rattle.line_parts.specs.Digits.{has_number_form, number_to, value_from}

pub value_least : (n : ℕ) (digits : List ℕ) → n ≤ value_from n digits
value_least n [] = omega arith
value_least n (d ∷ digits) = let further = value_least (n * 10 + (d - 48)) digits in omega (arith, further)

value_grows : (n i : ℕ) (digits : List ℕ) → i < length digits → n * 10 + (get_or digits i 0 - 48) ≤ value_from n (drop i digits)
value_grows n i [] lt = absurd (omega arith)
value_grows n zero (d ∷ digits) lt = value_least (n * 10 + (d - 48)) digits
value_grows n (suc i) (d ∷ digits) lt = value_grows n i digits (omega arith)

-- once a value is out of the range, it stays there
pub out_of_range : (most n i : ℕ) (digits : List ℕ) → i < length digits → value_from n (drop i digits) ≡ value_from 0 digits → most < n * 10 + (get_or digits i 0 - 48) → most < value_from 0 digits
out_of_range most n i digits lt e h =
    let grows = value_grows n i digits lt in
    omega (arith, e, grows, h)

-- a number is in its range
least_digit : (d : ℕ) → is_digit d ≡ true → (d == 48) ≡ false → 1 ≤ d - 48
least_digit d a b = grind (arith, a, b)

pub least : (text : List ℕ) → has_number_form text ≡ true → 1 ≤ value_from 0 text
least [] e = cc
least (d ∷ digits) e = by (is_digit d) (d == 48) refl refl
  where
    form : (a b c d : Bool) → (a && (b && c) && not d) ≡ true → (b ≡ true) × (d ≡ false)
    form true true true false e = (refl, refl)
    form true true true true e = cc
    form true true false d e = cc
    form true false c d e = cc
    form false b c d e = cc

    by : (v w : Bool) → is_digit d ≡ v → (d == 48) ≡ w → 1 ≤ value_from 0 (d ∷ digits)
    by v w a b =
        let parts = form (nat_le 1 (length (d ∷ digits))) (is_digit d) (list_all is_digit digits) (d == 48) e in
        let one = least_digit d parts.0 parts.1 in
        let up = value_least (0 * 10 + (d - 48)) digits in
        omega (arith, one, up)

pub number_in : (most n : ℕ) (text : List ℕ) → number_to most text ≡ Some n → (1 ≤ n) × (n ≤ most)
number_in most n text e = by (has_number_form text) (nat_le (value_from 0 text) most) refl refl e
  where
    by : (v w : Bool) → has_number_form text ≡ v → nat_le (value_from 0 text) most ≡ w → (if v && w then Some (value_from 0 text) else None) ≡ Some n → (1 ≤ n) × (n ≤ most)
    by true true form le e =
        let same : value_from 0 text ≡ n = cc in
        let below : value_from 0 text ≤ most = grind (arith, le) in
        rw (← same) (least text form, below)
    by true false form le e = cc
    by false w form le e = cc

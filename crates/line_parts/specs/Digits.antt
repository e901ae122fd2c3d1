-- Numbers in decimal digits.
use Rattle.std.specs.Prelude.{ℕ, Bool, false, ◌&&◌, not, nat_le, ◌==◌, ◌+◌, ◌-◌, ◌*◌, List, [], ◌∷◌, length, Option, Some, None, if◌then◌else◌}
use Rattle.std.specs.List.{list_all}
use Rattle.ri_base.specs.Ascii.{is_digit}

-- n and then these digits, as a decimal number
abbrev pub value_from : ℕ → List ℕ → ℕ
value_from n [] = n
value_from n (d ∷ digits) = value_from (n * 10 + (d - 48)) digits

abbrev pub starts_with_zero : List ℕ → Bool
starts_with_zero [] = false
starts_with_zero (c ∷ cs) = c == 48

-- digits without a leading zero, at least one
abbrev pub has_number_form : List ℕ → Bool
has_number_form text = nat_le 1 (length text) && list_all is_digit text && not (starts_with_zero text)

-- the number from 1 to `most` that stands here
abbrev pub number_to : ℕ → List ℕ → Option ℕ
number_to most text = if has_number_form text && nat_le (value_from 0 text) most then Some (value_from 0 text) else None

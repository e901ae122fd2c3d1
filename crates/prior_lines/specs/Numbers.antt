-- The numbers of a row.
use Rattle.std.specs.Prelude.{ℕ, Bool, ◌&&◌, nat_le, List, length, Option, Some, None, if◌then◌else◌}
use Rattle.std.specs.List.{list_all}
use Rattle.ri_base.specs.Ascii.{is_digit}
use Rattle.line_parts.specs.Digits.{value_from}

-- 1 to 18 digits, zeros in front too
abbrev pub is_number : List ℕ → Bool
is_number text = nat_le 1 (length text) && nat_le (length text) 18 && list_all is_digit text

abbrev pub number : List ℕ → Option ℕ
number text = if is_number text then Some (value_from 0 text) else None

-- Classes of bytes, of ASCII alone, as TREC text and the query language name them.
use Rattle.std.specs.Prelude.{ℕ, Bool, ◌==◌, nat_le, ◌&&◌, ◌||◌, ◌+◌, if◌then◌else◌}

-- tab, line feed, form feed, carriage return and space
abbrev pub is_space : ℕ → Bool
is_space b = (b == 9) || (b == 10) || (b == 12) || (b == 13) || (b == 32)

abbrev pub is_upper : ℕ → Bool
is_upper b = nat_le 65 b && nat_le b 90

abbrev pub is_lower : ℕ → Bool
is_lower b = nat_le 97 b && nat_le b 122

abbrev pub is_digit : ℕ → Bool
is_digit b = nat_le 48 b && nat_le b 57

abbrev pub is_letter : ℕ → Bool
is_letter b = is_upper b || is_lower b

abbrev pub is_letter_or_digit : ℕ → Bool
is_letter_or_digit b = is_letter b || is_digit b

-- a letter in lower case, and any other byte as it is
abbrev pub lower : ℕ → ℕ
lower b = if is_upper b then b + 32 else b

-- Parts of a text.
use Rattle.std.specs.Prelude.{ℕ, Bool, ◌==◌, nat_lt, List, length, Option, Some, None, if◌then◌else◌}
use Rattle.std.specs.List.{after_first, before_first, position_or_len}

abbrev pub is_byte : ℕ → ℕ → Bool
is_byte a b = b == a

-- what stands before the first such byte and what stands behind it, where there is one
abbrev pub split : ℕ → List ℕ → Option (List ℕ × List ℕ)
split a text =
    if nat_lt (position_or_len (is_byte a) text) (length text)
    then Some (before_first (is_byte a) text, after_first (is_byte a) text)
    else None

-- Numbers of the command line.
use Rattle.std.specs.Prelude.{ℕ, List, Option, Some, None}
use Rattle.line_parts.specs.Digits.{number_to}

-- the number of a text that may be left out, which then stands for a number of its own
abbrev pub number_or : ℕ → ℕ → Option (List ℕ) → Option ℕ
number_or default most None = Some default
number_or default most (Some text) = number_to most text

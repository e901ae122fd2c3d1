-- The names of files.
use Rattle.std.specs.Prelude.{ℕ, zero, suc, ◌+◌, ◌/◌, ◌%◌, List, [], ◌∷◌, ◌++◌, codes, nat_lt, if◌then◌else◌}

-- the hexadecimal digit of a number below 16, in lower case
abbrev pub digit : ℕ → ℕ
digit d = if nat_lt d 10 then 48 + d else 87 + d

-- so many hexadecimal digits of a number, the last of them its lowest
abbrev pub hex : ℕ → ℕ → List ℕ
hex zero n = []
hex (suc k) n = hex k (n / 16) ++ digit (n % 16) ∷ []

-- the file of the segment with this number: `seg-` and 16 digits
unfoldable pub segment_name : ℕ → List ℕ
segment_name n = codes "seg-" ++ hex 16 n

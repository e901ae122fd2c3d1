-- The limit of a scale.
use Rattle.std.specs.Prelude.{ℕ, ◌^◌, nat_lt, if◌then◌else◌, Option, Some, None}

-- the number, where it is below the limit
unfoldable pub below_limit : ℕ → Option ℕ
below_limit n = if nat_lt n (2 ^ 60) then Some n else None

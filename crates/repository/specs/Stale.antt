-- Files that are no longer read.
use Rattle.std.specs.Prelude.{ℕ, List, [], ◌∷◌, Option, None, Some, nat_le, if◌then◌else◌}
use Rattle.std.specs.List.{position_or_len}

-- the place of a number among others that rise: that of the first that is at least n
abbrev pub place_among : ℕ → List ℕ → ℕ
place_among n ns = position_or_len (λ m. nat_le n m) ns

-- numbers that rise, with n in its place among them
abbrev pub with_stale : List ℕ → ℕ → List ℕ
with_stale [] n = n ∷ []
with_stale (m ∷ ms) n = if nat_le n m then n ∷ m ∷ ms else m ∷ with_stale ms n

-- the same where there may be no number more
abbrev pub with_old : List ℕ → Option ℕ → List ℕ
with_old stale None = stale
with_old stale (Some n) = with_stale stale n

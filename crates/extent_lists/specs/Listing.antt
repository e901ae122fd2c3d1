-- Lists of extents in order.
use Rattle.std.specs.Prelude.{◌≡◌, ℕ, ◌<◌, List, ◌⊎◌}
use Rattle.std.specs.List.{All, AllPairs, Contains}
use Rattle.ri_base.specs.Pair.{Pair}

-- one extent stands before another: by begin, then end
abbrev pub IsBefore : Pair → Pair → Type 0
IsBefore x y = (x.begin < y.begin) ⊎ (x.begin ≡ y.begin) × (x.end < y.end)

-- the list has just the extents of the set, each once, by begin and then end
pub record IsListing (R : ℕ → ℕ → Type 0) (xs : List Pair) : Type 0 where
  pub ascending : AllPairs IsBefore xs
  pub only : All (λ x. R x.begin x.end) xs
  pub all : (b e : ℕ) → R b e → Contains xs (record { begin = b; end = e })

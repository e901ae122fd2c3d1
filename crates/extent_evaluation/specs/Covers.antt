-- Lists that have the least ends of a set of extents, and the least end of a list.
use Rattle.std.specs.Prelude.{◌≡◌, ℕ, ◌≤◌, ◌==◌, min, List, [], ◌∷◌, Option, Some, if◌then◌else◌}
use Rattle.ri_base.specs.Pair.{Pair}
use Rattle.extent_lists.specs.Rows.{Has, IsRising}

-- the list has extents of the set, one for each begin, and no extent of the set with that begin ends earlier
pub record Covers (R : ℕ → ℕ → Type 0) (xs : List Pair) : Type 0 where
  pub rising : IsRising xs
  pub only : (b e : ℕ) → Has xs b e → R b e
  pub least : (b e : ℕ) → R b e → (m : ℕ) × Has xs b m × (m ≤ e)

-- the list has extents of the set, and for each of the set one of the same begin that ends no later
pub record Finds (R : ℕ → ℕ → Type 0) (xs : List Pair) : Type 0 where
  pub only : (b e : ℕ) → Has xs b e → R b e
  pub least : (b e : ℕ) → R b e → (m : ℕ) × Has xs b m × (m ≤ e)

-- the least end of those extents whose begin passes, where there is one
pub record IsLeastOf (Passes : ℕ → Type 0) (xs : List Pair) (found : Option ℕ) : Type 0 where
  pub only : (m : ℕ) → found ≡ Some m → (b : ℕ) × Passes b × Has xs b m
  pub least : (b e : ℕ) → Passes b → Has xs b e → (m : ℕ) × (found ≡ Some m) × (m ≤ e)

-- x before a list; in one with the first of it, with the lesser end, where both begin alike
abbrev pub with_least : Pair → List Pair → List Pair
with_least x [] = x ∷ []
with_least x (y ∷ ys) =
    if x.begin == y.begin then record { begin = y.begin; end = min x.end y.end } ∷ ys else x ∷ (y ∷ ys)

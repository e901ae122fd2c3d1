-- Lists of extents by recursion, for the functions that go over them.
use Rattle.std.specs.Prelude.{◌≡◌, ℕ, ◌+◌, ◌<◌, ◌==◌, ◌&&◌, ◌||◌, nat_lt, Bool, min, List, [], ◌∷◌, ◌⊎◌, ⊤, Option, Some, None, map, slice_index_or}
use Rattle.ri_base.specs.Pair.{Pair}
use Rattle.extent_lists.specs.Listing.{IsBefore}

-- the test whether one extent stands before another
abbrev pub is_earlier : Pair → Pair → Bool
is_earlier x y = nat_lt x.begin y.begin || (x.begin == y.begin && nat_lt x.end y.end)

-- the extent of one token
abbrev pub extent_at : ℕ → Pair
extent_at place = record { begin = place; end = place + 1 }

-- the list has the extent from b to e
abbrev pub Has : List Pair → ℕ → ℕ → Type 0
Has [] b e = ⊥
Has (x ∷ xs) b e = ((x.begin ≡ b) × (x.end ≡ e)) ⊎ Has xs b e

-- the sets of the extents of several lists
abbrev pub sets : List (List Pair) → List (ℕ → ℕ → Type 0)
sets lists = map Has lists

abbrev pub IsBeforeAll : Pair → List Pair → Type 0
IsBeforeAll x [] = ⊤
IsBeforeAll x (y ∷ ys) = IsBefore x y × IsBeforeAll x ys

-- each extent stands before all that follow it
abbrev pub IsAscending : List Pair → Type 0
IsAscending [] = ⊤
IsAscending (x ∷ xs) = IsBeforeAll x xs × IsAscending xs

-- the list has just the extents of the set, in order
pub record Lists (R : ℕ → ℕ → Type 0) (xs : List Pair) : Type 0 where
  pub ascending : IsAscending xs
  pub only : (b e : ℕ) → Has xs b e → R b e
  pub all : (b e : ℕ) → R b e → Has xs b e

abbrev pub BeginsAfter : ℕ → List Pair → Type 0
BeginsAfter b [] = ⊤
BeginsAfter b (x ∷ xs) = (b < x.begin) × BeginsAfter b xs

-- each extent begins behind the begin of the one before
abbrev pub IsRising : List Pair → Type 0
IsRising [] = ⊤
IsRising (x ∷ xs) = BeginsAfter x.begin xs × IsRising xs

-- where the extent at a place of the list begins
abbrev pub begin_at : List Pair → ℕ → ℕ
begin_at xs k = (slice_index_or xs k (record { begin = 0; end = 0 })).begin

-- and ends
abbrev pub end_at : List Pair → ℕ → ℕ
end_at xs k = (slice_index_or xs k (record { begin = 0; end = 0 })).end

-- the lesser of an end and what may be one
abbrev pub least_with : ℕ → Option ℕ → Option ℕ
least_with end None = Some end
least_with end (Some other) = Some (min end other)

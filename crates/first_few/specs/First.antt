-- The first of a list by an order: in whatever order they are held, and as the front of the list when it is sorted. The order of a
-- type is its own.
use Rattle.std.specs.Prelude.{◌≡◌, ◌<◌, ◌≤◌, ℕ, List, [], ◌++◌, length, take, All}
use Rattle.std.specs.BinaryHeap.{IsUpperBound}
use Rattle.std.specs.List.Sorted.{IsPermutation, IsSorted}
use Rattle.std.specs.declared.cmp.Ordering.{Ordering}

-- how many may be held, and what is held, in no order
pub record Few (X : Type 0) : Type 0 where
  pub most : ℕ
  pub held : List X

-- k of all are held, or all where these are fewer, and none of the others is less than one of them
pub record AreFirst {X : Type 0} (order : X → X → Ordering) (k : ℕ) (all held : List X) : Type 0 where
  pub others : List X
  pub split : IsPermutation all (held ++ others)
  pub few : length held ≤ k
  pub full : length held < k → others ≡ []
  pub apart : All (λ x. IsUpperBound order x held) others

-- the first k of all when these are sorted
pub record IsFront {X : Type 0} (order : X → X → Ordering) (k : ℕ) (all front : List X) : Type 0 where
  pub ranking : List X
  pub same : IsPermutation all ranking
  pub sorted : IsSorted order ranking
  pub first : front ≡ take k ranking

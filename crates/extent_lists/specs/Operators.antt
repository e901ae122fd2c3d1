-- The operators on sets of extents. A set of extents is a relation: whether it has the extent from b to e.
use Rattle.std.specs.Prelude.{ℕ, ◌+◌, ◌≤◌, List, [], ◌∷◌, ◌⊎◌, ⊤}

-- one extent is inside another: it begins no earlier and ends no later
abbrev pub IsInside : ℕ → ℕ → ℕ → ℕ → Type 0
IsInside from to b e = (b ≤ from) × (to ≤ e)

-- an extent that begins there follows one that ends there: it begins at or behind that end, and at most n - 1 tokens lie
-- between them
abbrev pub Follows : ℕ → ℕ → ℕ → Type 0
Follows n end begin = (end ≤ begin) × (begin + 1 ≤ end + n)

-- the extents of the set that have the least end for their begin
pub record IsLeastEnd (R : ℕ → ℕ → Type 0) (b e : ℕ) : Type 0 where
  pub ends : R b e
  pub least : (other : ℕ) → R b other → e ≤ other

-- some set has the extent
abbrev pub IsInSome : List (ℕ → ℕ → Type 0) → ℕ → ℕ → Type 0
IsInSome [] b e = ⊥
IsInSome (R ∷ rest) b e = R b e ⊎ IsInSome rest b e

-- each set has an extent
abbrev pub HasEach : List (ℕ → ℕ → Type 0) → Type 0
HasEach [] = ⊤
HasEach (R ∷ rest) = ((b : ℕ) × (e : ℕ) × R b e) × HasEach rest

-- from the begin of an extent of the first set to the end of one of the second that follows it
abbrev pub Joins : ℕ → (ℕ → ℕ → Type 0) → (ℕ → ℕ → Type 0) → ℕ → ℕ → Type 0
Joins n R S b e = (end : ℕ) × (begin : ℕ) × R b end × Follows n end begin × S begin e

-- a chain goes from b to e: one extent of each set in turn, where each follows the one before
abbrev pub IsChain : ℕ → List (ℕ → ℕ → Type 0) → ℕ → ℕ → Type 0
IsChain n [] b e = ⊥
IsChain n (R ∷ []) b e = R b e
IsChain n (R ∷ S ∷ rest) b e = Joins n R (IsChain n (S ∷ rest)) b e

-- the set has an extent inside the one from b to e
abbrev pub HasInside : (ℕ → ℕ → Type 0) → ℕ → ℕ → Type 0
HasInside R b e = (from : ℕ) × (to : ℕ) × R from to × IsInside from to b e

-- from the begin of an extent of the first set so far that it and one of the second set are inside
abbrev pub Widens : (ℕ → ℕ → Type 0) → (ℕ → ℕ → Type 0) → ℕ → ℕ → Type 0
Widens R S b e = (to : ℕ) × R b to × (to ≤ e) × HasInside S b e

-- each set has an extent inside the one from b to e
abbrev pub HasEachInside : List (ℕ → ℕ → Type 0) → ℕ → ℕ → Type 0
HasEachInside [] b e = ⊤
HasEachInside (R ∷ rest) b e = HasInside R b e × HasEachInside rest b e

-- a window of at most n tokens: each set has an extent inside it, and one of these begins where it begins
pub record IsWindow (n : ℕ) (sets : List (ℕ → ℕ → Type 0)) (b e : ℕ) : Type 0 where
  pub narrow : e ≤ b + n
  pub each : HasEachInside sets b e
  pub begins : (to : ℕ) × (to ≤ e) × IsInSome sets b to

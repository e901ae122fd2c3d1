-- Of items that stand before each other whatever their further digits are, the first of each run.
use Rattle.std.specs.Prelude.{◌≡◌, ◌⊎◌, ◌<◌, ◌≤◌, ◌+◌, ◌-◌, ℕ, Bool, true, List, ◌++◌, length, slice_index_or}
use Rattle.std.specs.List.{All, count_by}
use Rattle.std.specs.List.Sorted.{IsPermutation}

-- how many of these stand before an item
abbrev pub count_before : {X : Type 0} → (X → X → Bool) → List X → X → ℕ
count_before before xs x = count_by (λ y. before y x) xs

-- where the item at a place stands before another, k of these do
abbrev pub Reaches : {X : Type 0} → (X → X → Bool) → ℕ → ℕ → List X → Type 0
Reaches {X} before k i xs = (x : X) → before (slice_index_or xs i x) x ≡ true → k ≤ count_before before xs x

-- so it is at each of the places that are told
abbrev pub IsFull : {X : Type 0} → (X → X → Bool) → ℕ → List ℕ → List X → Type 0
IsFull before k full xs = All (λ i. (i < length xs) × Reaches before k i xs) full

-- an item continues the run of the last of some items
abbrev pub Continues : {X : Type 0} → (X → X → Bool) → List X → X → Type 0
Continues before kept x = (0 < length kept) × (before (slice_index_or kept (length kept - 1) x) x ≡ true)

-- so many items of an item's run were seen, where so many were seen of the last one's
abbrev pub AreSeen : {X : Type 0} → (X → X → Bool) → List X → ℕ → X → ℕ → Type 0
AreSeen before kept run x seen = (Continues before kept x × (seen ≡ run)) ⊎ ((Continues before kept x → ⊥) × (seen ≡ 0))

-- of so many neighbours from a place on each stands before the next
abbrev pub AreNeighbours : {X : Type 0} → (X → X → Bool) → ℕ → ℕ → List X → Type 0
AreNeighbours {X} before i n xs = (j : ℕ) → i ≤ j → j + 1 < i + n → (x : X) → before (slice_index_or xs j x) (slice_index_or xs (j + 1) x) ≡ true

-- of neighbours of which each stands before the next there are at most k
abbrev pub AreShort : {X : Type 0} → (X → X → Bool) → ℕ → List X → Type 0
AreShort before k xs = (i n : ℕ) → i + n ≤ length xs → AreNeighbours before i n xs → n ≤ k

-- of the items that were taken these are kept, at most k of a run; the others have k of them before them. So many items were seen of the last run
pub record HoldsRuns {X : Type 0} (before : X → X → Bool) (k : ℕ) (taken : List X) (run : ℕ) (full : List ℕ) (kept : List X) : Type 0 where
  pub out : List X
  pub split : IsPermutation taken (kept ++ out)
  pub behind : All (λ x. k ≤ count_before before kept x) out
  pub last : (m : ℕ) → m ≤ run → m ≤ k → Reaches before m (length kept - 1) kept
  pub short : AreShort before k kept
  pub seen : (i n : ℕ) → i + n ≡ length kept → AreNeighbours before i n kept → n ≤ run
  pub whole : IsFull before k full kept

-- The first k of a list by keys of which at first only bounds are known.
use Rattle.std.specs.Prelude.{◌≡◌, ◌<◌, ◌≤◌, ◌-◌, ℕ, Bool, true, List, not, length, nat_lt, nat_le, slice_index, All}
use Rattle.std.specs.List.{count_by, filter}
use Rattle.std.specs.Ordering.{nat_cmp, ordering_then}
use Rattle.std.specs.declared.cmp.Ordering.{Ordering}
use Rattle.std.specs.List.Sorted.{IsPermutation, IsNonDecreasing}

-- each key lies from its lower to its upper bound
abbrev pub AreEnclosed : {X : Type 0} → (X → ℕ) → (X → ℕ) → (X → ℕ) → List X → Type 0
AreEnclosed lo up key xs = All (λ x. (lo x ≤ key x) × (key x ≤ up x)) xs

-- at least k of these have their upper bound below n: n is greater than the k-th least
abbrev pub is_beaten : {X : Type 0} → (X → ℕ) → ℕ → List X → ℕ → Bool
is_beaten up k xs n = nat_le k (count_by (λ x. nat_lt (up x) n) xs)

-- those whose lower bound is at most the k-th least upper bound of all; all where there are fewer than k
abbrev pub contenders : {X : Type 0} → (X → ℕ) → (X → ℕ) → ℕ → List X → List X
contenders lo up k xs = filter (λ x. not (is_beaten up k xs (lo x))) xs

-- v is the k-th least of these numbers
pub record IsKthLeast (k : ℕ) (xs : List ℕ) (v : ℕ) : Type 0 where
  pub sorted : List ℕ
  pub same : IsPermutation xs sorted
  pub rises : IsNonDecreasing sorted
  pub some : 0 < k
  pub enough : k ≤ length xs
  pub at : v ≡ slice_index sorted (k - 1)

-- what is known of an entry, its key, and what decides between equal keys
pub record Bounded : Type 0 where
  pub lo : ℕ
  pub up : ℕ
  pub key : ℕ
  pub tie : ℕ

-- by key and then by what decides
abbrev pub by_key : Bounded → Bounded → Ordering
by_key a b = ordering_then (nat_cmp a.key b.key) (nat_cmp a.tie b.tie)

abbrev pub Encloses : List Bounded → Type 0
Encloses entries = AreEnclosed (λ (x : Bounded). x.lo) (λ x. x.up) (λ x. x.key) entries

-- an entry whose lower bound is greater than the k-th least upper bound
abbrev pub IsBeaten : ℕ → List Bounded → Bounded → Type 0
IsBeaten k all x = is_beaten (λ (y : Bounded). y.up) k all x.lo ≡ true

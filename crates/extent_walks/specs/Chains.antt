-- Chains of which each extent begins at a given number or behind.
use Rattle.std.specs.Prelude.{◌≡◌, ℕ, zero, suc, ◌≤◌, ◌⊎◌, true, List, [], ◌∷◌, length, max}
use Rattle.std.specs.List.{All}
use Rattle.extent_lists.specs.Operators.{IsChain, Joins}
use Rattle.extent_lists.specs.Plans.{Plan, Plans, listed, none, more}
use Rattle.extent_walks.specs.Shapes.{is_monotone, plans_shape}
use Rattle.extent_walks.specs.declared.reach.Reach.{Reach}

-- the k-th plan
abbrev pub plan_at : Plans → ℕ → Plan
plan_at none k = listed []
plan_at (more p g) zero = p
plan_at (more p g) (suc k) = plan_at g k

-- a chain goes from b to e, and each of its extents begins at its number or behind
abbrev pub IsChainFrom : ℕ → List (ℕ → ℕ → Type 0) → List ℕ → ℕ → ℕ → Type 0
IsChainFrom n [] ls b e = ⊥
IsChainFrom n (R ∷ rest) [] b e = ⊥
IsChainFrom n (R ∷ []) (l ∷ ls) b e = (l ≤ b) × R b e
IsChainFrom n (R ∷ S ∷ rest) (l ∷ ls) b e = (l ≤ b) × Joins n R (IsChainFrom n (S ∷ rest) ls) b e

-- the list with its first number no less than this
abbrev pub with_first : ℕ → List ℕ → List ℕ
with_first low [] = []
with_first low (l ∷ ls) = max low l ∷ ls

-- no chain from the place on has an extent before its number
pub record IsReached (n : ℕ) (sets : List (ℕ → ℕ → Type 0)) (reach : Reach) : Type 0 where
  pub count : length reach.lows.items ≡ length sets
  pub passed : (b e : ℕ) → reach.from ≤ b → IsChain n sets b e → IsChainFrom n sets reach.lows.items b e

-- of the numbers that are known, or of none, the first is raised to the place
pub record IsAsked (low : ℕ) (old new : Reach) : Type 0 where
  pub from : new.from ≡ low
  pub lows : (known : List ℕ) × (length known ≡ length old.lows.items) × (new.lows.items ≡ with_first low known) × ((old.from ≤ low) × (known ≡ old.lows.items) ⊎ All (λ l. l ≡ 0) known)

-- there is an argument, and in none an extent that begins no earlier than another ends earlier
abbrev pub AreChained : Plans → Type 0
AreChained none = ⊥
AreChained (more p g) = is_monotone (plans_shape (more p g)) ≡ true

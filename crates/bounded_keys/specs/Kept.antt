-- Items that are kept of all that were offered: the first by numbers that lead their keys, and others that may still be among the
-- first by their keys.
use Rattle.std.specs.Prelude.{◌≡◌, ◌⊎◌, ◌<◌, ◌≤◌, ◌+◌, ◌-◌, ◌*◌, ◌/◌, ◌^◌, ℕ, Bool, true, false, ◌||◌, nat_lt, List, [], ◌++◌, length}
use Rattle.std.specs.BinaryHeap.{IsUpperBound}
use Rattle.std.specs.List.{All, count_by}
use Rattle.std.specs.List.Sorted.{IsPermutation}
use Rattle.std.specs.declared.cmp.Ordering.{Ordering}
use Rattle.bounded_keys.specs.Bounds.{is_beaten}
use Rattle.bounded_keys.specs.Runs.{count_before}
use Rattle.bounded_keys.specs.declared.threshold.Threshold.{Threshold}
use Rattle.bounded_keys.specs.declared.threshold.Threshold.TheVariants.{Above, Everything, Nothing}

-- a key that this number leads is at least this
abbrev pub lower : ℕ → ℕ
lower c = c * 2 ^ 28

-- and at most this, under the scale of the keys
abbrev pub upper : ℕ → ℕ → ℕ
upper scale c = (c + scale) * 2 ^ 28 - scale

-- how many may be held, the scale of the keys, and what is held and what is kept beside it, in no order
pub record Kept (X : Type 0) : Type 0 where
  pub most : ℕ
  pub scale : ℕ
  pub held : List X
  pub near : List X

-- k of all are held, or all where these are fewer; the others are these, and none of them is less than one that is held
pub record IsApart {X : Type 0} (order : X → X → Ordering) (k : ℕ) (all held others : List X) : Type 0 where
  pub split : IsPermutation all (held ++ others)
  pub few : length held ≤ k
  pub full : length held < k → others ≡ []
  pub apart : All (λ x. IsUpperBound order x held) others

-- by the numbers of items, whether a lower bound is beaten
abbrev pub is_beaten_by : {X : Type 0} → (X → ℕ) → ℕ → ℕ → List X → ℕ → Bool
is_beaten_by number scale k xs c = is_beaten (λ x. upper scale (number x)) k xs (lower c)

-- an item surely stands before another by their keys: its upper bound is below the other's lower bound, or it stands before it
-- whatever their further digits are
abbrev pub is_surely_before : {X : Type 0} → (X → ℕ) → ℕ → (X → X → Bool) → X → X → Bool
is_surely_before number scale before y x = nat_lt (upper scale (number y)) (lower (number x)) || before y x

-- at least k of these surely stand before it
abbrev pub IsBehind : {X : Type 0} → (X → ℕ) → ℕ → (X → X → Bool) → ℕ → List X → X → Type 0
IsBehind number scale before k xs x = k ≤ count_by (λ y. is_surely_before number scale before y x) xs

-- of all items the first are held, others are kept, and the rest is gone, behind so many that it isn't among the first
pub record IsKept {X : Type 0} (order : X → X → Ordering) (number : X → ℕ) (before : X → X → Bool) (all : List X) (kept : Kept X) : Type 0 where
  pub gone : List X
  pub apart : IsApart order kept.most all kept.held (kept.near ++ gone)
  pub behind : All (λ x. IsBehind number kept.scale before kept.most all x) gone

-- none of these is beaten, and the rest of all items is behind k of them
pub record AreContenders {X : Type 0} (number : X → ℕ) (scale : ℕ) (before : X → X → Bool) (k : ℕ) (all taken : List X) : Type 0 where
  pub passed : List X
  pub split : IsPermutation all (taken ++ passed)
  pub behind : All (λ x. IsBehind number scale before k all x) passed
  pub in_question : All (λ x. is_beaten_by number scale k all (number x) ≡ false) taken

-- how far the upper bound of a key goes beyond its leading number, in such numbers
abbrev pub slack : ℕ → ℕ
slack scale = (scale * 2 ^ 28 - scale) / 2 ^ 28

-- whether a number is beaten
abbrev pub beats : Threshold → ℕ → Bool
beats Nothing c = false
beats (Above number more) c = nat_lt (number + more) c
beats Everything c = true

-- of some items others are left out, each of which is beaten, or has k of all before it
pub record LeavesOut {X : Type 0} (number : X → ℕ) (before : X → X → Bool) (k : ℕ) (threshold : Threshold) (xs ys : List X) : Type 0 where
  pub out : List X
  pub split : IsPermutation xs (ys ++ out)
  pub behind : All (λ x. (beats threshold (number x) ≡ true) ⊎ (k ≤ count_before before xs x)) out

-- each of these stands among the others, as often as it stands here
pub record AreAmong {X : Type 0} (xs ys : List X) : Type 0 where
  pub others : List X
  pub split : IsPermutation ys (xs ++ others)

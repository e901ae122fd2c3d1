-- Places in a list of extents, and how the least end of a range of begins is found.
use Rattle.std.specs.Prelude.{◌≡◌, ℕ, ◌+◌, ◌-◌, ◌<◌, ◌≤◌, ◌&&◌, nat_lt, nat_le, Option, Some, None, if◌then◌else◌, List, length, slice_index}
use Rattle.ri_base.specs.Pair.{Pair}
use Rattle.extent_lists.specs.Rows.{begin_at, end_at}

-- of the extents before place j, the last that ends before `end` is the one before `count`; where `count` is 0 none does
pub record IsShorterAt (xs : List Pair) (j count end : ℕ) : Type 0 where
  pub within : count ≤ j
  pub shorter : 0 < count → end_at xs (count - 1) < end
  pub between : (k : ℕ) → count ≤ k → k < j → end ≤ end_at xs k

-- for each extent the number of extents up to the last one before it that ends earlier
pub record IsShorter (xs : List Pair) (table : List ℕ) : Type 0 where
  pub lengths : length table ≡ length xs
  pub each : (j : ℕ) → j < length table → IsShorterAt xs j (slice_index table j) (end_at xs j)

-- the extent before `count` begins at `low` or behind, and ends no later than those behind it that begin within n of `low`
abbrev pub Leads : List Pair → ℕ → ℕ → ℕ → Type 0
Leads xs n low count =
    (k : ℕ) → count ≤ k → k < length xs → begin_at xs k < low + n → (0 < count) × (low ≤ begin_at xs (count - 1)) × (end_at xs (count - 1) ≤ end_at xs k)

-- the end of the extent before `count`, if there is one that begins at `low` or behind
abbrev pub end_led : List Pair → ℕ → ℕ → Option ℕ
end_led xs low count =
    if nat_lt 0 count && nat_le low (begin_at xs (count - 1)) then Some (end_at xs (count - 1)) else None

-- the extents from place `from` on begin at `low` or behind, and this is their least end
pub record IsTail (xs : List Pair) (low from : ℕ) (found : Option ℕ) : Type 0 where
  pub within : from ≤ length xs
  pub behind : (k : ℕ) → from ≤ k → k < length xs → low ≤ begin_at xs k
  pub only : (m : ℕ) → found ≡ Some m → (k : ℕ) × (from ≤ k) × (k < length xs) × (end_at xs k ≡ m)
  pub least : (k : ℕ) → from ≤ k → k < length xs → (m : ℕ) × (found ≡ Some m) × (m ≤ end_at xs k)

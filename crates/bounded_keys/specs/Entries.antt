-- Entries whose keys are known at the first level, and what their keys at the last may be.
use Rattle.std.specs.Prelude.{◌≡◌, ℕ, List, length, map}
use Rattle.std.specs.Ordering.{nat_cmp, ordering_then}
use Rattle.std.specs.declared.cmp.Ordering.{Ordering}
use Rattle.log_chain.specs.Progress.{digits_of}
use Rattle.log_chain.specs.declared.chain.TheConstants.{FIRST}
use Rattle.leaf_chains.specs.Chains.{AreAt}
use Rattle.bounded_keys.specs.Bounds.{contenders}
use Rattle.bounded_keys.specs.Digits.{late}
use Rattle.bounded_keys.specs.Kept.{IsKept, Kept, lower, upper}
use Rattle.bounded_keys.specs.Likeness.{is_before}
use Rattle.bounded_keys.specs.declared.entry.Entry.{Entry}
use Rattle.bounded_keys.specs.declared.entry.Settled.{Settled}

-- by the keys at the first level
abbrev pub by_leading : {W : Type 0} → Entry W → Entry W → Ordering
by_leading a b = nat_cmp a.leading b.leading

-- by the keys at the last level, and then by the windows
abbrev pub by_key : {W : Type 0} → (W → W → Ordering) → Settled W → Settled W → Ordering
by_key order a b = ordering_then (nat_cmp a.key b.key) (order a.window b.window)

-- an entry of so many leaves, whose digits are those of the first level, with their key there
pub record IsEarly {W : Type 0} (key : List ℕ → ℕ) (leaves : ℕ) (x : Entry W) : Type 0 where
  pub each : length x.leaves ≡ leaves
  pub first : AreAt FIRST x.leaves
  pub leads : x.leading ≡ key (map digits_of x.leaves)

-- with all digits
abbrev pub settled : {W : Type 0} → (List ℕ → ℕ) → Entry W → Settled W
settled key x = record { key = key (map digits_of (late x.leaves)); window = x.window; leaves = late x.leaves }

-- these entries were offered, whose windows are in this order
abbrev pub WereOffered : {W : Type 0} → (W → W → Ordering) → List (Entry W) → Kept (Entry W) → Type 0
WereOffered order all kept = IsKept by_leading (λ x. x.leading) (is_before order) all kept

-- of some entries those that may be among the first k by their keys at the last level
abbrev pub in_question : {W : Type 0} → ℕ → ℕ → List (Entry W) → List (Entry W)
in_question scale k all = contenders (λ x. lower x.leading) (λ x. upper scale x.leading) k all

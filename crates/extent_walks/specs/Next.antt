-- The least extent of a set from a place on, and least ends.
use Rattle.std.specs.Prelude.{◌≡◌, ◌<◌, ◌≤◌, ◌==◌, ◌&&◌, ◌||◌, nat_lt, nat_le, Bool, ℕ, Option, Some, None, List, [], ◌∷◌, ◌⊎◌, ⊤, if◌then◌else◌}
use Rattle.ri_base.specs.Pair.{Pair}
use Rattle.extent_lists.specs.Rows.{least_with}
use Rattle.extent_lists.specs.Rows.{is_earlier}

-- the extent from b to e stands at the place of the one from `begin` to `end`, or behind: by begin, then end
abbrev pub IsFrom : ℕ → ℕ → ℕ → ℕ → Type 0
IsFrom begin end b e = (begin < b) ⊎ (begin ≡ b) × (end ≤ e)

-- the test of this
abbrev pub is_from : ℕ → ℕ → ℕ → ℕ → Bool
is_from begin end b e = nat_lt begin b || (begin == b && nat_le end e)

-- the least extent of the set from a place on, where there is one
pub record IsNext (R : ℕ → ℕ → Type 0) (begin end : ℕ) (found : Option Pair) : Type 0 where
  pub only : (x : Pair) → found ≡ Some x → R x.begin x.end × IsFrom begin end x.begin x.end
  pub least : (b e : ℕ) → R b e → IsFrom begin end b e → (x : Pair) × (found ≡ Some x) × IsFrom x.begin x.end b e

-- the one of two that comes first
abbrev pub earlier : Option Pair → Option Pair → Option Pair
earlier None other = other
earlier (Some x) None = Some x
earlier (Some x) (Some y) = if is_earlier y x then Some y else Some x

-- the least end of a set of ends, where there is one
pub record IsLeast (P : ℕ → Type 0) (found : Option ℕ) : Type 0 where
  pub only : (m : ℕ) → found ≡ Some m → P m
  pub least : (e : ℕ) → P e → (m : ℕ) × (found ≡ Some m) × (m ≤ e)

-- an end of the set that no end of the set below `top` lies before; where there is none, the set has no end below `top`
pub record IsLeastBelow (top : ℕ) (P : ℕ → Type 0) (found : Option ℕ) : Type 0 where
  pub only : (m : ℕ) → found ≡ Some m → P m
  pub least : (e : ℕ) → P e → e < top → (m : ℕ) × (found ≡ Some m) × (m ≤ e)

-- the set has an extent from a begin in this range to the end
abbrev pub EndsFrom : (ℕ → ℕ → Type 0) → ℕ → ℕ → ℕ → Type 0
EndsFrom R low top e = (b : ℕ) × (low ≤ b) × (b < top) × R b e

-- the lesser of what may be two ends
abbrev pub least_either : Option ℕ → Option ℕ → Option ℕ
least_either None other = other
least_either (Some m) other = least_with m other

-- each extent ends behind the one before
abbrev pub EndsAfter : ℕ → List Pair → Type 0
EndsAfter e [] = ⊤
EndsAfter e (x ∷ xs) = (e < x.end) × EndsAfter e xs

abbrev pub EndsRise : List Pair → Type 0
EndsRise [] = ⊤
EndsRise (x ∷ xs) = EndsAfter x.end xs × EndsRise xs

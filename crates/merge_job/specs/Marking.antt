-- Marks go to new parts, one document behind the other.
use Rattle.std.specs.Prelude.{◌≤◌, ℕ, ◌+◌, Bool, true, false, List, [], ◌∷◌, length, map, take, set, slice_index_or}
use Rattle.std.specs.List.{All, flat_map}

-- the marks of all parts
abbrev pub together : List (List Bool) → List Bool
together parts = flat_map (λ ms. ms) parts

-- how many each of them has
abbrev pub lengths : List (List Bool) → List ℕ
lengths parts = map (λ ms. length ms) parts

-- how many documents the parts have before a place
abbrev pub before : List (List Bool) → ℕ → ℕ → ℕ
before parts p i = length (together (take p parts)) + i

-- a place in parts, or the end of one; none of them is empty
pub record IsPlace (parts : List (List Bool)) (p i : ℕ) : Type 0 where
  pub within : i ≤ length (slice_index_or parts p [])
  pub some : All (λ ms. 1 ≤ length ms) parts

-- marks with more of them set, from a place on, where it is told
abbrev pub marked_from : List Bool → ℕ → List Bool → List Bool
marked_from marks at [] = marks
marked_from marks at (true ∷ flags) = marked_from (set marks at true) (at + 1) flags
marked_from marks at (false ∷ flags) = marked_from marks (at + 1) flags

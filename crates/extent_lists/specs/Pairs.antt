-- All pairs of numbers that may be an extent in a document.
use Rattle.std.specs.Prelude.{ℕ, ◌+◌, List, [], ◌∷◌, map, flat_map, length}
use Rattle.std.specs.List.{range_with_len}
use Rattle.ri_base.specs.Documents.{Document, Field}
use Rattle.ri_base.specs.Pair.{Pair}

abbrev pub pair : ℕ → ℕ → Pair
pair b e = record { begin = b; end = e }

-- all pairs of numbers below n, by begin and then end
abbrev pub pairs : ℕ → List Pair
pairs n = flat_map (λ b. map (λ e. pair b e) (range_with_len 0 n)) (range_with_len 0 n)

-- a number that no begin and no end of these fields passes
abbrev pub field_bound : List Field → ℕ
field_bound [] = 0
field_bound (f ∷ rest) = f.begin + f.end + field_bound rest

-- no extent in the document begins or ends there or behind
abbrev pub bound : Document → ℕ
bound d = 1 + length d.tokens + field_bound d.fields

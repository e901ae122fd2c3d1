-- What the two kinds of priors keep.
use Rattle.std.specs.Prelude.{ℕ, List, [], ◌∷◌, map, Option, None, Some}
use Rattle.ri_base.specs.Ratio.{Ratio, ratio_of}
use Rattle.ri_base.specs.declared.fraction.Fraction.{Fraction}
use Rattle.belief_nodes.specs.Products.{greatest_of}

-- the rows of a table or the steps of lengths, with their fractions as numbers
abbrev pub told_of : {X : Type 0} → List (X × Fraction) → List (X × Ratio)
told_of entries = map (λ entry. (entry.0, ratio_of entry.1)) entries

-- the greatest fraction of the rows of a table, and of equal ones the first; none where there is no row
abbrev pub greatest_row : List (List ℕ × Ratio) → Option Ratio
greatest_row [] = None
greatest_row (row ∷ rows) = Some (greatest_of (map (λ r. r.1) (row ∷ rows)))

-- Ranges in which no leaf of a query has an extent.
use Rattle.std.specs.Prelude.{◌<◌, ◌≤◌, ℕ, List}
use Rattle.ri_base.specs.Documents.{Document}
use Rattle.query_check.specs.Leaves.{LeafTree}
use Rattle.range_bounds.specs.Ranges.{range_documents}
use Rattle.range_bounds.specs.Tables.{AreAbsent}

-- none from a range on, up to another
abbrev pub AreAbsentTo : List LeafTree → List Document → ℕ → ℕ → Type 0
AreAbsentTo leaves docs from to = (range : ℕ) → from ≤ range → range < to → AreAbsent leaves (range_documents docs range)

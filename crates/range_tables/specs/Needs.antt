-- Terms of which no count is needed, since the leaves that ask for them don't occur.
use Rattle.std.specs.Prelude.{◌≡◌, ◌⊎◌, ℕ, List, Contains}
use Rattle.std.specs.List.{All}
use Rattle.ri_base.specs.Documents.{Document}
use Rattle.query_check.specs.Leaves.{LeafTree, extents, prior}
use Rattle.range_bounds.specs.Most.{capped, most}
use Rattle.range_bounds.specs.Ranges.{most_places}
use Rattle.range_tables.specs.Asks.{leaf_words}

-- at how many tokens at most a leaf occurs in one of these documents; a prior doesn't occur
abbrev pub most_of : List Document → LeafTree → ℕ
most_of docs (extents x c) = most docs x
most_of docs (prior n) = 0

-- a leaf that asks for the term doesn't occur in these documents
abbrev pub IsIdleIn : List Document → List ℕ → LeafTree → Type 0
IsIdleIn docs t leaf = Contains (leaf_words leaf) t → most_of docs leaf ≡ 0

-- none of the leaves does that asks for the term
abbrev pub IsIdle : List LeafTree → List Document → List ℕ → Type 0
IsIdle leaves docs t = All (IsIdleIn docs t) leaves

-- how many places the term has at most in one of these documents, or 0 where it isn't needed
abbrev pub IsTermCount : List LeafTree → List Document → List ℕ → ℕ → Type 0
IsTermCount leaves docs t n = (n ≡ capped (most_places docs t)) ⊎ ((n ≡ 0) × IsIdle leaves docs t)

-- The lines of a scan.
use Rattle.std.specs.Prelude.{ℕ, List, flat_map, map}
use Rattle.ri_base.specs.Documents.{Document}
use Rattle.ri_base.specs.Expression.{ExprTree}
use Rattle.ri_base.specs.Pair.{Pair}
use Rattle.extent_evaluation.specs.Listed.{extent_list}

-- a line for each extent of a document
abbrev pub lines_of : List ℕ → List Pair → List (List ℕ × Pair)
lines_of docno found = map (λ w. (docno, w)) found

-- the extents of an expression in each document, by begin and then end
abbrev pub extents_in : ExprTree → List Document → List (List ℕ × Pair)
extents_in x docs = flat_map (λ d. lines_of d.docno (extent_list x d)) docs

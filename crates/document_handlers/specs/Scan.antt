-- What a scan for an expression writes of a document: a line for each of its extents, by begin and then end.
use Rattle.std.specs.Prelude.{ℕ, List}
use Rattle.std.specs.List.{flat_map}
use Rattle.ri_base.specs.Documents.{Document}
use Rattle.ri_base.specs.Expression.{ExprTree}
use Rattle.ri_base.specs.Pair.{Pair}
use Rattle.command_pieces.specs.ExtentLines.{extent_line}
use Rattle.extent_evaluation.specs.Listed.{extent_list}

-- a line for each extent
abbrev pub extent_lines : List ℕ → List Pair → List ℕ
extent_lines docno xs = flat_map (extent_line docno) xs

-- the lines of a document
abbrev pub document_lines : ExprTree → Document → List ℕ
document_lines x d = extent_lines d.docno (extent_list x d)

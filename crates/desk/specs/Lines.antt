-- The lines of replies.
use Rattle.std.specs.Prelude.{ℕ, List, [], ◌∷◌, ◌++◌, codes, length}
use Rattle.std.specs.Fmt.{decimal}
use Rattle.std.specs.List.{flat_map}
use Rattle.ri_base.specs.Pair.{Pair}
use Rattle.command_pieces.specs.ExtentLines.{extent_line}
use Rattle.ri_base.specs.declared.hit.Hit.{Hit}
use Rattle.ranked_output.specs.Texts.{lines_of, lines_text}

-- WORD REST
abbrev pub reply_line : List ℕ → List ℕ → List ℕ
reply_line word rest = word ++ 32 ∷ rest ++ 10 ∷ []

-- NAME COUNT
abbrev pub with_count : List ℕ → ℕ → List ℕ
with_count name count = name ++ 32 ∷ decimal count

-- CREDIT of SIZE
abbrev pub credit_of : ℕ → ℕ → List ℕ
credit_of credit size = decimal credit ++ codes " of " ++ decimal size

-- NAME CREDIT of SIZE
abbrev pub with_credit : List ℕ → ℕ → ℕ → List ℕ
with_credit name credit size = name ++ 32 ∷ credit_of credit size

-- the line of an extent that is told with its document's docno
abbrev pub told_line : List ℕ × Pair → List ℕ
told_line l = extent_line l.0 l.1

-- a line for each extent, and then how many they are
unfoldable pub extents_text : List (List ℕ × Pair) → List ℕ
extents_text lines = flat_map told_line lines ++ reply_line (codes "scanned") (decimal (length lines))

-- how many results they are, and then the line of each
unfoldable pub results_text : List ℕ → ℕ → List Hit → List ℕ
results_text name scale hits = reply_line (codes "results") (with_count name (length hits)) ++ lines_text (lines_of scale hits)

-- The line of an extent of a document, as a scan for an expression writes it.
use Rattle.std.specs.Prelude.{ℕ, List, [], ◌∷◌, ◌++◌}
use Rattle.std.specs.Fmt.{decimal}
use Rattle.ri_base.specs.Pair.{Pair}

-- DOCNO BEGIN END
abbrev pub extent_line : List ℕ → Pair → List ℕ
extent_line docno x = docno ++ 32 ∷ decimal x.begin ++ 32 ∷ decimal x.end ++ 10 ∷ []

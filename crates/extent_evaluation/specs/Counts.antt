-- What is counted of an expression in a window of a document. That each token counts once at which an extent begins is the
-- project's own.
use Rattle.std.specs.Prelude.{ℕ, ◌-◌, List, filter, length, Option, None, Some}
use Rattle.ri_base.specs.Documents.{Document}
use Rattle.ri_base.specs.Expression.{ExprTree}
use Rattle.ri_base.specs.Pair.{Pair}
use Rattle.field_extents.specs.Extents.{begin_count}
use Rattle.field_extents.specs.Fields.{covered_count, lies_in_some}
use Rattle.extent_lists.specs.Pairs.{pair}
use Rattle.extent_evaluation.specs.Listed.{extent_list}

-- all tokens of a document, as a window
abbrev pub whole : Document → Pair
whole d = pair 0 (length d.tokens)

-- the extents that count: all, or with a context those in some field of that name
abbrev pub counted : ExprTree → Document → Option (List ℕ) → List Pair
counted x d None = extent_list x d
counted x d (Some c) = filter (lies_in_some d.fields c) (extent_list x d)

-- at how many tokens of the window one of them begins that lies inside the window
abbrev pub tf : ExprTree → Document → Pair → Option (List ℕ) → ℕ
tf x d w c = begin_count (counted x d c) w

-- how many tokens the window has, with a context those that some field of that name covers
abbrev pub len : Document → Pair → Option (List ℕ) → ℕ
len d w None = w.end - w.begin
len d w (Some c) = covered_count d.fields c w

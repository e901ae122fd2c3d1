-- Whether a document may have an extent of an expression, and whether it may be shown for a query, by its terms alone.
use Rattle.std.specs.Prelude.{ℕ, Bool, true, false, ◌&&◌, List, if◌then◌else◌}
use Rattle.std.specs.List.{list_all, list_any}
use Rattle.std.specs.Str.{bytes_eq}
use Rattle.ri_base.specs.Documents.{Document}
use Rattle.ri_base.specs.Expression.{ExprTree}
use Rattle.ri_base.specs.Query.{FilterTree}
use Rattle.extent_lists.specs.Presence.{may_with}
use Rattle.query_check.specs.Leaves.{LeafTree, extents, prior}

-- some token of the document is the term
abbrev pub has_term : List ℕ → Document → Bool
has_term t d = list_any (λ token. bytes_eq token t) d.tokens

-- the document has the terms that an extent of the expression needs
abbrev pub may : ExprTree → Document → Bool
may x d = may_with (λ t. has_term t d) x

-- a leaf may occur in the document; a prior doesn't occur
abbrev pub leaf_may : LeafTree → Document → Bool
leaf_may (extents x context) d = may x d
leaf_may (prior n) d = false

-- some leaf may occur
abbrev pub some_may : List LeafTree → Document → Bool
some_may leaves d = list_any (λ l. leaf_may l d) leaves

-- a filter that keeps may be passed where its expression may have an extent, one that rejects always
abbrev pub filter_may : FilterTree → Document → Bool
filter_may f d = if f.keep then may f.expr d else true

-- each filter may be passed
abbrev pub filters_may : List FilterTree → Document → Bool
filters_may filters d = list_all (λ f. filter_may f d) filters

-- the document may have something to show: some leaf may occur, and each filter may be passed
abbrev pub query_may : List FilterTree → List LeafTree → Document → Bool
query_may filters leaves d = some_may leaves d && filters_may filters d

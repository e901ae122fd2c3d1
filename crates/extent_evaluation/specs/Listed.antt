-- The extents of an expression in a document as one list.
use Rattle.std.specs.Prelude.{List, filter}
use Rattle.ri_base.specs.Documents.{Document}
use Rattle.ri_base.specs.Expression.{ExprTree}
use Rattle.ri_base.specs.Pair.{Pair}
use Rattle.extent_lists.specs.Pairs.{bound, pairs}
use Rattle.extent_lists.proofs.Tested.{has_extent}

-- Of all pairs of numbers those that are extents of the expression, by begin and then end. `has_extent` is a test, whose
-- term stands with the proofs. What the list is doesn't rest on reading it: `extents_have_one_list` states that this list
-- is a listing (`IsListing`) of the extents (`Ext`), and that no other list is one.
unfoldable pub extent_list : ExprTree → Document → List Pair
extent_list x d = filter (has_extent x d) (pairs (bound d))

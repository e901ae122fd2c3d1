-- the list of the extents of an expression lists them, and no other list does
use Rattle.std.proofs.Common.{◌≡◌, List}
use Rattle.ri_base.specs.Documents.{Document}
use Rattle.ri_base.specs.Expression.{ExprTree}
use Rattle.ri_base.specs.Pair.{Pair}
use Rattle.extent_lists.specs.Extents.{Ext}
use Rattle.extent_lists.specs.Listing.{IsListing}
use Rattle.extent_lists.specs.Pairs.{bound}
use Rattle.extent_lists.specs.Rows.{Lists}
use Rattle.extent_lists.proofs.ListLemmas.{Lists-listing, Lists-tested, same_list}
use Rattle.extent_lists.proofs.ListingLemmas.{IsListing-lists}
use Rattle.extent_lists.proofs.Tested.{ext_tested, has_extent}
use Rattle.extent_evaluation.specs.Listed.{extent_list}

lists : (x : ExprTree) (d : Document) → Lists (Ext x d) (extent_list x d)
unfolding extent_list has_extent
lists x d = Lists-tested (bound d) (Ext x d) (ext_tested x d)

pub listing : (x : ExprTree) (d : Document) → IsListing (Ext x d) (extent_list x d)
listing x d = IsListing-lists (Ext x d) (extent_list x d) (lists x d)

pub listing_is : (x : ExprTree) (d : Document) (xs : List Pair) → IsListing (Ext x d) xs → xs ≡ extent_list x d
listing_is x d xs h = same_list (Ext x d) xs (extent_list x d) (Lists-listing (Ext x d) xs h) (lists x d)

use Rattle.extent_evaluation.proofs.ListedLemmas.{listing, listing_is}
use Rattle.extent_evaluation.proofs.laws.extents_have_one_list.Goals as goal

pub returns-clause-listing : goal.returns-clause-listing
returns-clause-listing c = listing

pub returns-clause-only_one : goal.returns-clause-only_one
returns-clause-only_one c = listing_is

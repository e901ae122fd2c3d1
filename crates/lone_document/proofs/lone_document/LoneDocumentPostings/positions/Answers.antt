use Rattle.ri_base.proofs.PlacesLemmas.{places-below, places-rise}
use Rattle.lone_document.proofs.lone_document.LoneDocumentPostings.positions.Goals as goal

pub returns-clause-rising : goal.returns-clause-rising
returns-clause-rising c = rw c.in_ok-places.ensures (places-rise _ _)

pub returns-clause-below : goal.returns-clause-below
returns-clause-below c = rw c.in_ok-places.ensures (places-below _ _)

use Rattle.std.proofs.Common.{refl}
use Rattle.extent_lists.proofs.LeafLemmas.{lists_word}
use Rattle.extent_lists.proofs.ListingLemmas.{IsAscending-places}
use Rattle.extent_lists.proofs.leaves.of_term.Goals as goal

pub returns-clause-exact : goal.returns-clause-exact
returns-clause-exact g c = λ sound.
    lists_word _ _ _ _ (c.in_ok-places.ensures.exact sound) (rw (c.of.ensures, c.in_ok-of_places.ensures, c.as_slice.ensures) refl)

pub returns-clause-ascending : goal.returns-clause-ascending
returns-clause-ascending g c = IsAscending-places _ _ c.in_ok-places.ensures.rising (rw (c.of.ensures, c.in_ok-of_places.ensures, c.as_slice.ensures) refl)

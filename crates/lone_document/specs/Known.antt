-- The places that are known of some terms.
use Rattle.std.specs.Prelude.{◌≡◌, ℕ, List, Option, IfSome, option_map}
use Rattle.std.specs.BTreeMap.{get}
use Rattle.std.specs.Cmp.Lexicographic.{slice_cmp}
use Rattle.std.specs.Ordering.{nat_cmp}
use Rattle.ri_base.specs.Places.{places_from}
use Rattle.lone_document.specs.declared.known.Known.{Known}

-- the places that are kept of a term, where it is one of those
abbrev pub places_known : Known → List ℕ → Option (List ℕ)
places_known known term = option_map (λ places. places.items) (get (slice_cmp nat_cmp) known.places term)

-- what is kept of a term are its places among these tokens
abbrev pub AreKnown : Known → List (List ℕ) → Type 0
AreKnown known tokens = (term : List ℕ) → IfSome (places_known known term) (λ places. places ≡ places_from 0 term tokens)

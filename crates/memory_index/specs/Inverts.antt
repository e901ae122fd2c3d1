-- The steps by which documents of numbers are inverted.
use Rattle.std.specs.Prelude.{◌≡◌, ◌<◌, ℕ, ◌+◌, List, [], ◌∷◌, ◌++◌, Some, length, map, slice_get, slice_index_or, slice_index, if◌then◌else◌, ◌==◌}
use Rattle.std.specs.Cmp.Lexicographic.{slice_cmp}
use Rattle.std.specs.List.{All, Contains}
use Rattle.std.specs.Ordering.{nat_cmp}
use Rattle.std.specs.declared.cmp.Ordering.TheVariants.{Less}
use Rattle.ri_base.specs.Inversion.{by_number, documents_of}
use Rattle.ri_base.specs.Places.{postings_of}
use Rattle.ri_base.specs.declared.held.Held.{Held}
use Rattle.ri_base.specs.declared.places.Place.{Place}
use Rattle.memory_index.specs.declared.numbered.Numbered.{Numbered}

-- each term with its number, from n on
abbrev pub numbered_from : ℕ → List (List ℕ) → List Numbered
numbered_from n [] = []
numbered_from n (t ∷ ts) = record { term = t; number = n } ∷ numbered_from (n + 1) ts

abbrev pub terms_of : List Numbered → List (List ℕ)
terms_of xs = map (λ s. s.term) xs

abbrev pub AreRising : List (List ℕ) → Type 0
AreRising terms = (i j : ℕ) (d : List ℕ) → i < j → j < length terms → slice_cmp nat_cmp (slice_index_or terms i d) (slice_index_or terms j d) ≡ Less

-- the terms with their numbers, in rising order of bytes
pub record AreSorted (terms : List (List ℕ)) (sorted : List Numbered) : Type 0 where
  pub same_length : length sorted ≡ length terms
  pub each : All (λ s. slice_get terms s.number ≡ Some s.term) sorted
  pub all : All (Contains sorted) (numbered_from 0 terms)
  pub rising : AreRising (terms_of sorted)

-- the numbers, from i on, of those that are r
abbrev pub places_of_rank : ℕ → ℕ → List ℕ → List ℕ
places_of_rank i r [] = []
places_of_rank i r (x ∷ xs) = if x == r then i ∷ places_of_rank (i + 1) r xs else places_of_rank (i + 1) r xs

-- these tokens' ranks
abbrev pub ranks_at : List ℕ → List ℕ → List ℕ
ranks_at ranks tokens = map (λ n. slice_index ranks n) tokens

-- rank r's places in document id
abbrev pub new_places : ℕ → ℕ → List ℕ → List Place
new_places id r tokens = map (λ p. record { id = id; at = p }) (places_of_rank 0 r tokens)

-- each list has grown by its rank's places in document id
pub record AreSpread (old new : List (List Place)) (id : ℕ) (ranks : List ℕ) : Type 0 where
  pub same_length : length new ≡ length old
  pub each : (r : ℕ) → r < length old → slice_index_or new r [] ≡ slice_index_or old r [] ++ new_places id r ranks

-- rank r's places in the documents from id on
abbrev pub all_places_from : ℕ → ℕ → List ℕ → List Held → List Place
all_places_from id r ranks [] = []
all_places_from id r ranks (h ∷ hs) = new_places id r (ranks_at ranks h.tokens.items) ++ all_places_from (id + 1) r ranks hs

-- each list is its rank's places
pub record AreAllSpread (new : List (List Place)) (n : ℕ) (ranks : List ℕ) (docs : List Held) : Type 0 where
  pub same_length : length new ≡ n
  pub each : (r : ℕ) → r < n → slice_index_or new r [] ≡ all_places_from 0 r ranks docs

-- the parts of an inversion of documents whose tokens are numbers of these terms
pub record Inverts (terms : List (List ℕ)) (docs : List Held) (vocabulary : List (List ℕ)) (ranks : List ℕ) (postings : List (List Place)) : Type 0 where
  pub named : by_number vocabulary ranks ≡ terms
  pub ranked : All (λ r. r < length vocabulary) ranks
  pub rising : AreRising vocabulary
  pub only : All (Contains terms) vocabulary
  pub all : All (Contains vocabulary) terms
  pub each : postings ≡ map (λ t. postings_of t (documents_of terms docs)) vocabulary

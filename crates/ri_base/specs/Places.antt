-- Where a term stands: its places in a document, and its postings in a collection.
use Rattle.std.specs.Prelude.{ℕ, ◌+◌, List, [], ◌∷◌, ◌++◌, map, if◌then◌else◌, ◌==◌}
use Rattle.std.specs.Str.{bytes_eq}
use Rattle.ri_base.specs.Documents.{Document}
use Rattle.ri_base.specs.declared.places.Place.{Place}

-- the numbers of the tokens that are this term, where the first of these tokens has number i
abbrev pub places_from : ℕ → List ℕ → List (List ℕ) → List ℕ
places_from i term [] = []
places_from i term (token ∷ tokens) =
    if bytes_eq token term then i ∷ places_from (i + 1) term tokens else places_from (i + 1) term tokens

-- the places of a term in a document: the numbers of its tokens that are this term, rising; the first token has number 0
unfoldable pub places : List ℕ → Document → List ℕ
places term d = places_from 0 term d.tokens

-- where a term stands in documents whose ids go up from `id`
abbrev pub postings_from : ℕ → List ℕ → List Document → List Place
postings_from id term [] = []
postings_from id term (d ∷ docs) = map (λ p. record { id = id; at = p }) (places term d) ++ postings_from (id + 1) term docs

-- the postings of a term: each of its places in each document, by rising id and in each document by rising place
unfoldable pub postings_of : List ℕ → List Document → List Place
postings_of term docs = postings_from 0 term docs

-- the places that a list of postings has in one document
abbrev pub places_at : ℕ → List Place → List ℕ
places_at id [] = []
places_at id (p ∷ ps) = if p.id == id then p.at ∷ places_at id ps else places_at id ps

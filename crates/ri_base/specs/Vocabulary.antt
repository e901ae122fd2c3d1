-- The vocabulary of a collection: its distinct terms, in order.
use Rattle.std.specs.Prelude.{◌≡◌, ◌⊎◌, ℕ, List, [], ◌∷◌}
use Rattle.std.specs.BTreeSet.{insert_key}
use Rattle.std.specs.Cmp.Lexicographic.{slice_cmp}
use Rattle.std.specs.List.{All, AllPairs, Contains}
use Rattle.std.specs.Ordering.{nat_cmp}
use Rattle.std.specs.declared.cmp.Ordering.TheVariants.{Less}
use Rattle.ri_base.specs.Documents.{Document}

-- one term comes before another, by their bytes
abbrev pub IsTermBefore : List ℕ → List ℕ → Type 0
IsTermBefore s t = slice_cmp nat_cmp s t ≡ Less

-- some document has the term
abbrev pub Occurs : List ℕ → List Document → Type 0
Occurs term [] = ⊥
Occurs term (d ∷ docs) = Contains d.tokens term ⊎ Occurs term docs

-- the distinct terms of the documents, in rising order of bytes
pub record IsVocabulary (terms : List (List ℕ)) (docs : List Document) : Type 0 where
  pub rising : AllPairs IsTermBefore terms
  pub only : All (λ term. Occurs term docs) terms
  pub all : (term : List ℕ) → Occurs term docs → Contains terms term

-- a rising list of terms with these terms in it, each at its place in the order unless it is there
abbrev pub with_terms : List (List ℕ) → List (List ℕ) → List (List ℕ)
with_terms [] terms = terms
with_terms (t ∷ ts) terms = insert_key (slice_cmp nat_cmp) (with_terms ts terms) t

-- the one list that is the vocabulary of the documents
abbrev pub vocabulary_of : List Document → List (List ℕ)
vocabulary_of [] = []
vocabulary_of (d ∷ docs) = with_terms d.tokens (vocabulary_of docs)

-- The inversion of documents whose tokens are kept as numbers of terms, stated apart from any code that makes it.
use Rattle.std.specs.Prelude.{◌≡◌, ◌<◌, ◌≤◌, ℕ, List, [], length, map, slice_index_or}
use Rattle.std.specs.List.{All}
use Rattle.ri_base.specs.Collection.{token_count}
use Rattle.ri_base.specs.Documents.{Document, IsDocument}
use Rattle.ri_base.specs.Places.{postings_of}
use Rattle.ri_base.specs.Vocabulary.{IsVocabulary}
use Rattle.ri_base.specs.declared.held.Held.{Held}
use Rattle.ri_base.specs.declared.places.Place.{Place}
use Rattle.ri_base.specs.declared.limits.TheConstants.{MAX_HELD_TOKENS, MAX_PART_DOCS}

-- the document for which this stands, where number n stands for the term at n
abbrev pub document_of : List (List ℕ) → Held → Document
document_of terms h = record { docno = h.docno; tokens = map (λ n. slice_index_or terms n []) h.tokens.items; fields = h.fields }

-- the documents for which these stand
abbrev pub documents_of : List (List ℕ) → List Held → List Document
documents_of terms docs = map (document_of terms) docs

-- each token is the number of one of so many terms
abbrev pub AreNumbers : ℕ → List Held → Type 0
AreNumbers count docs = All (λ h. All (λ n. n < count) h.tokens.items) docs

-- each stands for a document
abbrev pub StandForDocuments : List (List ℕ) → List Held → Type 0
StandForDocuments terms docs = All (λ h. IsDocument (document_of terms h).tokens h.fields) docs

-- the terms by number, where each number has a rank in the vocabulary
abbrev pub by_number : List (List ℕ) → List ℕ → List (List ℕ)
by_number vocabulary ranks = map (λ r. slice_index_or vocabulary r []) ranks

-- the postings, by the rank of their term, are the inversion of the documents, within the bounds of one part
pub record IsInversion (vocabulary : List (List ℕ)) (ranks : List ℕ) (docs : List Held) (postings : List (List Place)) : Type 0 where
  pub few : length docs ≤ MAX_PART_DOCS
  pub documents : StandForDocuments (by_number vocabulary ranks) docs
  pub fits : token_count (documents_of (by_number vocabulary ranks) docs) ≤ MAX_HELD_TOKENS
  pub terms : IsVocabulary vocabulary (documents_of (by_number vocabulary ranks) docs)
  pub numbers : AreNumbers (length ranks) docs
  pub ranked : All (λ r. r < length vocabulary) ranks
  pub each : postings ≡ map (λ term. postings_of term (documents_of (by_number vocabulary ranks) docs)) vocabulary

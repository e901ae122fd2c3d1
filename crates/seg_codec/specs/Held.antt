-- The documents that the parts of a file hold.
use Rattle.std.specs.Prelude.{ℕ, ◌≡◌, ◌<◌, ◌≤◌, ◌^◌, List, [], ◌∷◌, length, map, slice_index_or, slice_set, sum_by, Result, Ok, Err}
use Rattle.std.specs.Cmp.Lexicographic.{slice_cmp}
use Rattle.std.specs.List.{All, Contains}
use Rattle.std.specs.List.Sorted.{IsStrictlySortedBy}
use Rattle.std.specs.Ordering.{nat_cmp}
use Rattle.ri_base.specs.Documents.{Document}
use Rattle.ri_base.specs.Inversion.{by_number}
use Rattle.ri_base.specs.Places.{postings_of}
use Rattle.ri_base.specs.Vocabulary.{vocabulary_of}
use Rattle.ri_base.specs.declared.places.Place.{Place}
use Rattle.ri_base.specs.declared.seg_fault.SegFault.{SegFault}
use Rattle.ri_base.specs.declared.seg_fault.SegFault.TheVariants as faults
use Rattle.seg_codec.specs.Blocks.{tokens_of}
use Rattle.seg_codec.specs.Rising.{Rise}
use Rattle.seg_codec.specs.Segment.{blocks_at, entry_of, header_of, index}
use Rattle.seg_codec.specs.Whole.{IsSound}
use Rattle.seg_codec.specs.declared.dictionary.TermBlocks.{TermBlocks}
use Rattle.seg_codec.specs.declared.documents.Entry.{Entry}
use Rattle.seg_codec.specs.declared.whole.Whole.{Whole}

abbrev pub terms_of : List TermBlocks → List (List ℕ)
terms_of ts = map (λ t. t.term) ts

-- the parts of a file hold these documents: each without its tokens, their vocabulary, and the postings of each term
pub record Holds (docs : List Document) (w : Whole) : Type 0 where
  pub documents : map entry_of docs ≡ w.documents
  pub terms : vocabulary_of docs ≡ terms_of w.terms
  pub postings : map (λ t. postings_of t docs) (vocabulary_of docs) ≡ w.postings

-- what is known of the parts of a file of which each keeps its grammar: as many lists of postings as terms, each with
-- some, which rise and lie within the documents; terms in order; sound documents, with the header's number of tokens
pub record IsKept (w : Whole) : Type 0 where
  pub counted : length w.postings ≡ length w.terms
  pub rise : All (Rise (length w.documents) (tokens_of w.documents) 0 0) w.postings
  pub some : All (λ (ps : List Place). 0 < length ps) w.postings
  pub sorted : IsStrictlySortedBy (slice_cmp nat_cmp) (terms_of w.terms)
  pub sound : All IsSound w.documents
  pub tokens : sum_by (λ e. e.tokens) w.documents ≡ w.header.tokens
  pub few : length w.terms < 2 ^ 32

-- what the parts of the segment of documents hold
abbrev pub whole_of : List Document → Whole
whole_of docs = record {
  header = header_of docs;
  documents = map entry_of docs;
  terms = index (blocks_at docs) (vocabulary_of docs) docs;
  postings = map (λ t. postings_of t docs) (vocabulary_of docs);
}

-- the answer is these documents, or want of memory
abbrev pub AreRead : Result (List Document) SegFault → List Document → Type 0
AreRead (Ok found) docs = found ≡ docs
AreRead (Err (faults.Malformed f p place)) docs = ⊥
AreRead (Err (faults.Missing f)) docs = ⊥
AreRead (Err faults.Store) docs = ⊥
AreRead (Err faults.Memory) docs = Unit {0}

-- ---- the terms at the places, by their ranks

-- a place of documents with so many tokens
abbrev pub IsWithin : List ℕ → Place → Type 0
IsWithin lengths p = (p.id < length lengths) × (p.at < slice_index_or lengths p.id 0)

abbrev pub lengths_of : List Entry → List ℕ
lengths_of es = map (λ e. e.tokens) es

abbrev pub lengths : List (List ℕ) → List ℕ
lengths ranks = map (λ (r : List ℕ). length r) ranks

-- the rank of the term at a place of a document; where none is told yet, this number
abbrev pub rank_at : ℕ → List (List ℕ) → Place → ℕ
rank_at none ranks p = slice_index_or (slice_index_or ranks p.id []) p.at none

-- a rank is told at a place
abbrev pub told : List (List ℕ) → Place → ℕ → List (List ℕ)
told ranks p rank = slice_set ranks p.id (slice_set (slice_index_or ranks p.id []) p.at rank)

-- where a rank is told, the place is a posting of the term with that rank
abbrev pub AreOfPostings : List (List Place) → List (List ℕ) → Type 0
AreOfPostings postings ranks = (p : Place) → rank_at (length postings) ranks p < length postings → Contains (slice_index_or postings (rank_at (length postings) ranks p) []) p

-- at each of these places a rank is told
abbrev pub AreFilled : ℕ → List (List ℕ) → List Place → Type 0
AreFilled count ranks ps = All (λ p. rank_at count ranks p < count) ps

-- at each posting of a term its rank is told
abbrev pub AreAgreed : List (List Place) → List (List ℕ) → Type 0
AreAgreed postings ranks = (r : ℕ) → r < length postings → All (λ p. rank_at (length postings) ranks p ≡ r) (slice_index_or postings r [])

-- ranks of terms that are told at all places of the documents, each by a posting of its term, and at each posting its own
pub record AreRanked (w : Whole) (ranks : List (List ℕ)) : Type 0 where
  pub shape : lengths ranks ≡ lengths_of w.documents
  pub only : AreOfPostings w.postings ranks
  pub each : AreAgreed w.postings ranks
  pub full : All (λ (rs : List ℕ). All (λ r. r < length w.postings) rs) ranks

-- one of these places, at which another rank is told
pub record Differs (none : ℕ) (ranks : List (List ℕ)) (ps : List Place) (rank : ℕ) : Type 0 where
  pub place : Place
  pub posted : Contains ps place
  pub other : rank_at none ranks place ≡ rank → ⊥

-- a posting of a term at which another rank is told
pub record Clash (postings : List (List Place)) (ranks : List (List ℕ)) : Type 0 where
  pub rank : ℕ
  pub place : Place
  pub known : rank < length postings
  pub posted : Contains (slice_index_or postings rank []) place
  pub other : rank_at (length postings) ranks place ≡ rank → ⊥

-- ranks told at all postings, of which one clashes: two terms stand at its place
pub record IsClashing (postings : List (List Place)) : Type 0 where
  pub ranks : List (List ℕ)
  pub only : AreOfPostings postings ranks
  pub filled : All (AreFilled (length postings) ranks) postings
  pub clash : Clash postings ranks

-- a rank that is that of no term
pub record Untold (count : ℕ) (ranks : List ℕ) : Type 0 where
  pub at : ℕ
  pub within : at < length ranks
  pub free : count ≤ slice_index_or ranks at 0

-- a place at which no rank is told
pub record Gap (count : ℕ) (ranks : List (List ℕ)) : Type 0 where
  pub place : Place
  pub inside : place.id < length ranks
  pub within : place.at < length (slice_index_or ranks place.id [])
  pub free : count ≤ rank_at 0 ranks place

-- documents with these terms
abbrev pub rebuilt : List (List ℕ) → List Entry → List (List ℕ) → List Document
rebuilt terms [] ranks = []
rebuilt terms (e ∷ es) [] = []
rebuilt terms (e ∷ es) (r ∷ ranks) = record { docno = e.docno; tokens = by_number terms r; fields = e.fields } ∷ rebuilt terms es ranks

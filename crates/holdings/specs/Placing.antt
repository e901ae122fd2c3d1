-- How the places of live documents are found where parts are there already.
use Rattle.std.specs.Prelude.{◌≡◌, ◌≤◌, ◌<◌, ◌+◌, ◌⊎◌, ℕ, zero, suc, Bool, true, false, List, [], ◌∷◌, Some, None, length, map, take, if◌then◌else◌}
use Rattle.std.specs.List.{IsDistinct}
use Rattle.std.specs.Map.{lookup}
use Rattle.std.specs.Str.{bytes_eq}
use Rattle.ri_base.specs.Documents.{Document}
use Rattle.disk_index.specs.Snapshots.{Marked, documents_held}
use Rattle.holdings.specs.Kept.{cell, row}
use Rattle.holdings.specs.MarkedParts.{docnos_in, docnos_of, filled, tokens_held}
use Rattle.holdings.specs.declared.limits.Limits.{Limits}
use Rattle.holdings.specs.declared.refusals.PartsFault.{PartsFault}
use Rattle.holdings.specs.declared.refusals.PartsFault.TheVariants.{TooManyDocs, TooManyTokens, Repeated, Memory}
use Rattle.holdings.specs.declared.spot.Spot.{Spot}

-- the first of two places stands before the other
abbrev pub IsEarlier : Spot → Spot → Type 0
IsEarlier first second = (first.part < second.part) ⊎ ((first.part ≡ second.part) × (first.id < second.id))

-- a document of which nothing but its docno matters
abbrev pub named : List ℕ → Document
named docno = record { docno = docno; tokens = []; fields = [] }

-- the first documents of a part, of which nothing but docnos and marks matter
abbrev pub front_of : List (List ℕ) → List Bool → Marked
front_of docnos marks = filled (map named docnos) marks

-- the documents before a place: the parts before its part, and the first documents of that
abbrev pub before_place : List Marked → ℕ → ℕ → List Marked
before_place [] part id = []
before_place (m ∷ ms) zero id = front_of (take id (docnos_in m.source)) (take id m.marks) ∷ []
before_place (m ∷ ms) (suc part) id = m ∷ before_place ms part id

-- A live document has the docno of an earlier live one. It is the first such document: the docnos of those before it are distinct.
pub record Repeats (parts : List Marked) (second : Spot) : Type 0 where
  pub docno : List ℕ
  pub first : Spot
  pub at_first : cell (map row parts) first.part first.id ≡ Some docno
  pub at_second : cell (map row parts) second.part second.id ≡ Some docno
  pub earlier : IsEarlier first second
  pub before : IsDistinct bytes_eq (docnos_of (before_place parts second.part second.id))

-- the sums pass no limit
abbrev pub AreWithin : Limits → List Marked → Type 0
AreWithin limits parts = (documents_held parts ≤ limits.held_docs) × (tokens_held parts ≤ limits.held_tokens)

-- Why parts can't be held together: the first part with which a sum passes its limit, that of the documents before that of the
-- tokens; or, where none does, the first that repeats a docno.
abbrev pub IsPartsFault : Limits → List Marked → PartsFault → Type 0
IsPartsFault limits parts (TooManyDocs part) = (part < length parts) × (limits.held_docs < documents_held (take (part + 1) parts)) × AreWithin limits (take part parts)
IsPartsFault limits parts (TooManyTokens part) =
    (part < length parts) × (limits.held_tokens < tokens_held (take (part + 1) parts)) × (documents_held (take (part + 1) parts) ≤ limits.held_docs) × AreWithin limits (take part parts)
IsPartsFault limits parts (Repeated part id) = (part < length parts) × Repeats parts (record { part = part; id = id }) × AreWithin limits parts
IsPartsFault limits parts Memory = Unit {0}

-- ---- while they are found

-- a document is passed where it is marked, and its place is noted where it isn't
abbrev pub PlacesOne : List (List ℕ × Spot) → List (List ℕ × Spot) → Bool → List ℕ → Spot → Type 0
PlacesOne old new true docno spot = new ≡ old
PlacesOne old new false docno spot =
    (lookup (bytes_eq docno) old ≡ None)
    × ((q : List ℕ) → lookup (bytes_eq q) new ≡ (if bytes_eq docno q then Some spot else lookup (bytes_eq q) old))
    × (length new ≡ length old + 1)

-- What a table of ranges tells of the documents of a part.
use Rattle.std.specs.Prelude.{◌≡◌, ◌<◌, ⊤, ℕ, ◌+◌, ◌*◌, Bool, List, Option, None, Some, is_some, length, position, slice_index_or}
use Rattle.std.specs.List.{All, AllZip}
use Rattle.std.specs.Option.{option_map_or}
use Rattle.std.specs.Str.{bytes_eq}
use Rattle.ri_base.specs.Documents.{Document, IsDocument}
use Rattle.ri_base.specs.Expression.{ExprTree}
use Rattle.extent_lists.specs.Extents.{Ext}
use Rattle.query_check.specs.Leaves.{LeafTree, extents, prior}
use Rattle.range_bounds.specs.Most.{most, most_by}
use Rattle.range_bounds.specs.Ranges.{least_length, range_documents}
use Rattle.range_bounds.specs.declared.range_counts.RangeCounts.{RangeCounts}
use Rattle.range_bounds.specs.declared.table.RangeTable.{RangeTable}

-- documents of the form that every document has
abbrev pub AreFormed : List Document → Type 0
AreFormed docs = All (λ d. IsDocument d.tokens d.fields) docs

-- what is told of a text: the number at its place among the texts, 0 of one that isn't there
abbrev pub told : List (List ℕ) → List ℕ → List ℕ → ℕ
told texts numbers t = option_map_or (λ i. slice_index_or numbers i 0) (position (bytes_eq t) texts) 0

-- what counts of these terms and names tell of an expression
abbrev pub told_by : List (List ℕ) → List (List ℕ) → RangeCounts → ExprTree → ℕ
told_by terms names counts x = most_by (told terms counts.places.items) (told names counts.begins.items) x

-- the counts tell of a leaf at how many tokens at most it occurs in one of these documents
abbrev pub TellsLeaf : List (List ℕ) → List (List ℕ) → List Document → RangeCounts → LeafTree → Type 0
TellsLeaf terms names docs counts (extents x context) = told_by terms names counts x ≡ most docs x
TellsLeaf terms names docs counts (prior n) = ⊤

-- the counts, of these terms and names, are those of these documents for what the leaves ask
pub record AreCountsOf (leaves : List LeafTree) (terms names : List (List ℕ)) (docs : List Document) (counts : RangeCounts) : Type 0 where
  pub formed : AreFormed docs
  pub least : counts.least ≡ least_length docs
  pub most : All (TellsLeaf terms names docs counts) leaves

-- a leaf has no extent in a document; a prior has none anywhere
abbrev pub IsAbsent : Document → LeafTree → Type 0
IsAbsent d (extents x context) = (b e : ℕ) → Ext x d b e → ⊥
IsAbsent d (prior n) = ⊤

-- no leaf has an extent in any of these documents
abbrev pub AreAbsent : List LeafTree → List Document → Type 0
AreAbsent leaves docs = All (λ d. All (IsAbsent d) leaves) docs

-- what is told of these documents: their counts, or nothing where no leaf has an extent
abbrev pub TellsRange : List LeafTree → List (List ℕ) → List (List ℕ) → List Document → Option RangeCounts → Type 0
TellsRange leaves terms names docs None = AreAbsent leaves docs
TellsRange leaves terms names docs (Some counts) = AreCountsOf leaves terms names docs counts

-- each 64 of the documents are told of so
pub record AreAllCounts (leaves : List LeafTree) (terms names : List (List ℕ)) (docs : List Document) (ranges : List (Option RangeCounts)) : Type 0 where
  pub few : 64 * length ranges < length docs + 64
  pub each : (range : ℕ) → 64 * range < length docs → TellsRange leaves terms names (range_documents docs range) (slice_index_or ranges range None)

-- the terms and the names that a table counts
abbrev pub terms_of : RangeTable → List (List ℕ)
terms_of table = table.terms.keys

abbrev pub names_of : RangeTable → List (List ℕ)
names_of table = table.names.keys

-- the counts of a range, where it has them
abbrev pub counts_at : RangeTable → ℕ → Option RangeCounts
counts_at table range = slice_index_or table.ranges.items range None

abbrev pub has_counts : RangeTable → ℕ → Bool
has_counts table range = is_some (counts_at table range)

-- it has the counts of each range of these documents for these leaves, but of those in which none has an extent
abbrev pub IsTableOf : List LeafTree → List Document → RangeTable → Type 0
IsTableOf leaves docs table = AreAllCounts leaves (terms_of table) (names_of table) docs table.ranges.items

-- each table is that of its documents
abbrev pub AreTablesOf : List LeafTree → List (List Document) → List RangeTable → Type 0
AreTablesOf leaves docs tables = AllZip (IsTableOf leaves) docs tables

-- what the counts of a range tell of an expression
abbrev pub told_most : RangeTable → RangeCounts → ExprTree → ℕ
told_most table counts x = told_by (terms_of table) (names_of table) counts x

-- Blocks of a range of 64 ids that are held, whose they are, and what they tell.
use Rattle.std.specs.Prelude.{◌≡◌, ◌<◌, ◌+◌, ◌*◌, ◌/◌, ◌%◌, ◌==◌, ℕ, ⊤, Bool, true, List, length, Option, None, IfSome, is_some, option_map, if◌then◌else◌}
use Rattle.std.specs.BTreeMap.{is_at}
use Rattle.std.specs.Cmp.Lexicographic.{slice_cmp}
use Rattle.std.specs.List.{All, list_any}
use Rattle.std.specs.Map.{lookup}
use Rattle.std.specs.Ordering.{nat_cmp}
use Rattle.ri_base.specs.Collection.{document_at}
use Rattle.ri_base.specs.Documents.{Document}
use Rattle.ri_base.specs.Places.{places}
use Rattle.seg_codec.specs.Blocks.{tokens_of}
use Rattle.seg_codec.specs.declared.blocks.BlockEntry.{BlockEntry}
use Rattle.seg_codec.specs.declared.documents.Entry.{Entry}
use Rattle.disk_index.specs.Blocks.{block_of, places_of}
use Rattle.disk_index.specs.Faults.{ArePlacesIn}
use Rattle.disk_index.specs.Parts.{Source, InMemory, OnDisk}
use Rattle.range_masks.specs.May.{has_term}
use Rattle.range_masks.specs.Most.{most_of_entries, most_places}

-- the range, the terms with the blocks that are held, and how many blocks were opened
pub record Held : Type 0 where
  pub range : ℕ
  pub blocks : List (List ℕ × List BlockEntry)
  pub opened : ℕ

-- the block of a term, where it is held
abbrev pub block_in : Held → List ℕ → Option (List BlockEntry)
block_in held term = lookup (is_at (slice_cmp nat_cmp term)) held.blocks

-- the places that they tell of a term in a document; none are told where the term's block isn't held
abbrev pub answer : Held → List ℕ → ℕ → Option (List ℕ)
answer held term id = if id / 64 == held.range then option_map (places_of id) (block_in held term) else None

-- they tell of the term in the document
abbrev pub IsAnswered : Held → List ℕ → ℕ → Type 0
IsAnswered held term id = is_some (answer held term id) ≡ true

-- whether they tell that the document at a place of a range has the term; none is told of another range, or where the block isn't held
abbrev pub bit_answer : Held → List ℕ → ℕ → ℕ → Option Bool
bit_answer held term range i = if range == held.range then option_map (λ es. list_any (λ e. e.id % 64 == i) es) (block_in held term) else None

-- how many places they tell that a term has at most in one document of a range; none are told of another range, or where the block
-- isn't held
abbrev pub most_answer : Held → List ℕ → ℕ → Option ℕ
most_answer held term range = if range == held.range then option_map most_of_entries (block_in held term) else None

-- each block is the one that these documents have
abbrev pub AreBlocksOf : List Document → Held → Type 0
AreBlocksOf docs held = (term : List ℕ) → IfSome (block_in held term) (λ es. es ≡ block_of term held.range docs)

-- each answer, on places, on which documents have a term and on how many places it has there at most, is that of these documents
pub record AreAnswersOf (docs : List Document) (held : Held) : Type 0 where
  pub each : (term : List ℕ) (id : ℕ) → id < length docs → IfSome (answer held term id) (λ ps. ps ≡ places term (document_at docs id))
  pub bits : (term : List ℕ) (range i : ℕ) → i < 64 → IfSome (bit_answer held term range i) (λ b. b ≡ has_term term (document_at docs (64 * range + i)))
  pub most : (term : List ℕ) (range : ℕ) → IfSome (most_answer held term range) (λ n. n ≡ most_places term range docs)

-- the entry of one of these documents, with rising places in it
pub record IsEntryOf (outlines : List Entry) (e : BlockEntry) : Type 0 where
  pub inside : e.id < length outlines
  pub places : ArePlacesIn (tokens_of outlines e.id) e.positions

-- each block has entries of these documents alone
abbrev pub FitDocuments : List Entry → Held → Type 0
FitDocuments outlines held = (term : List ℕ) → IfSome (block_in held term) (All (IsEntryOf outlines))

-- the block of each of these terms is held
abbrev pub HasAll : List (List ℕ) → Held → Type 0
HasAll terms held = All (λ t. is_some (block_in held t) ≡ true) terms

-- the same of a part on disk; one in memory has no blocks
abbrev pub HoldsEach : Source → List (List ℕ) → Held → Type 0
HoldsEach (InMemory docs) terms held = ⊤
HoldsEach (OnDisk kept) terms held = HasAll terms held

-- how many blocks of these terms may be opened: one for each, and none of a part in memory
abbrev pub most_opened : Source → List (List ℕ) → ℕ
most_opened (InMemory docs) terms = 0
most_opened (OnDisk kept) terms = length terms

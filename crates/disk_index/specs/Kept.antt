-- What a part on disk keeps of its file.
use Rattle.std.specs.Prelude.{◌≡◌, ◌≤◌, ◌<◌, ◌+◌, ◌==◌, ◌^◌, ℕ, List, length, map, Option}
use Rattle.std.specs.List.{All, AllPairs, find}
use Rattle.std.specs.Option.{option_and_then}
use Rattle.std.specs.Str.{bytes_eq}
use Rattle.ri_base.specs.Documents.{AreFields, Document}
use Rattle.ri_base.specs.Vocabulary.{IsTermBefore, vocabulary_of}
use Rattle.ri_base.specs.declared.limits.TheConstants.{MAX_DOC_TOKENS}
use Rattle.seg_codec.specs.Part.{IsPart}
use Rattle.seg_codec.specs.Segment.{blocks_at, entry_of, index, segment}
use Rattle.seg_codec.specs.declared.dictionary.BlockPlace.{BlockPlace}
use Rattle.seg_codec.specs.declared.dictionary.TermBlocks.{TermBlocks}
use Rattle.seg_codec.specs.declared.documents.Entry.{Entry}
use Rattle.disk_index.specs.declared.cache.BlockKey.{BlockKey}

-- the number of its file, the documents without their tokens, the dictionary, and where the blocks begin
pub record Kept : Type 0 where
  pub number : ℕ
  pub outlines : List Entry
  pub dictionary : List TermBlocks
  pub begin : ℕ

-- what is kept of the segment of these documents
unfoldable pub kept_of : ℕ → List Document → Kept
kept_of number docs = record { number = number; outlines = map entry_of docs; dictionary = index (blocks_at docs) (vocabulary_of docs) docs; begin = blocks_at docs }

-- the bytes are the segment of these documents, which are some that have one
pub record IsSegmentOf (bytes : List ℕ) (docs : List Document) : Type 0 where
  pub same : bytes ≡ segment docs
  pub part : IsPart docs

-- the block of this range, among those of a term
abbrev pub place_in : ℕ → TermBlocks → Option BlockPlace
place_in range t = find (λ b. b.range == range) t.blocks

-- where the block of the term for the range stands, if there is one
abbrev pub place_of : List TermBlocks → List ℕ → ℕ → Option BlockPlace
place_of dictionary term range = option_and_then (place_in range) (find (λ t. bytes_eq t.term term) dictionary)

-- where that block was read, in the file of this number
abbrev pub key_of : ℕ → ℕ → BlockPlace → BlockKey
key_of number range p = record { number = number; range = range; place = p.place; length = p.length }

abbrev pub IsOutline : Entry → Type 0
IsOutline e = (e.tokens ≤ MAX_DOC_TOKENS) × AreFields e.tokens e.fields

-- the blocks of a term stand by rising range, and within what a file may have
pub record ArePlaces (t : TermBlocks) : Type 0 where
  pub rising : AllPairs (λ a b. a.range < b.range) t.blocks
  pub within : All (λ b. b.place + b.length < 2 ^ 64) t.blocks

-- what is kept, whatever the file has
pub record AreKept (outlines : List Entry) (dictionary : List TermBlocks) : Type 0 where
  pub each : All IsOutline outlines
  pub terms : AllPairs (λ a b. IsTermBefore a.term b.term) dictionary
  pub places : All ArePlaces dictionary
  pub few : length dictionary < 2 ^ 32

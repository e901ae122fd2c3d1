-- The documents of a range as its blocks tell them, whatever the file has, and where these break.
use Rattle.std.specs.Prelude.{◌≡◌, ◌<◌, ◌⊎◌, ℕ, zero, suc, List, length, map, replicate, slice_index_or, Option, Some, None, Result, Ok, Err}
use Rattle.std.specs.Option.{option_map_or}
use Rattle.ri_base.specs.Documents.{Document}
use Rattle.ri_base.specs.declared.seg_fault.FileName.TheVariants.{Segment}
use Rattle.ri_base.specs.declared.seg_fault.PartName.TheVariants as parts
use Rattle.ri_base.specs.declared.seg_fault.SegFault.{SegFault}
use Rattle.ri_base.specs.declared.seg_fault.SegFault.TheVariants.{Malformed, Missing, Store, Memory}
use Rattle.store_ends.specs.Files.{Files}
use Rattle.seg_codec.specs.declared.blocks.BlockEntry.{BlockEntry}
use Rattle.seg_codec.specs.declared.dictionary.BlockPlace.{BlockPlace}
use Rattle.seg_codec.specs.declared.documents.Entry.{Entry}
use Rattle.disk_index.specs.Blocks.{IsBlockFault, of_range}
use Rattle.disk_index.specs.Cache.{Cached}
use Rattle.disk_index.specs.Faults.{IsTermBlock}
use Rattle.disk_index.specs.Kept.{Kept, key_of, place_of}
use Rattle.disk_index.specs.Names.{segment_name}
use Rattle.disk_index.specs.Ranks.{ranks_of, term_of}
use Rattle.disk_index.specs.Rebuild.{Slots, documents_of, put_block}

-- where the block of this rank for the range begins in the file; the begin of all blocks where there is none
abbrev pub begin_of : Kept → ℕ → ℕ → ℕ
begin_of kept range rank = option_map_or (λ p. p.place) (place_of kept.dictionary (term_of kept.dictionary rank) range) kept.begin

-- where the last of the blocks begins that the first n of these ranks have; the begin of all blocks where n is 0
abbrev pub last_begin : Kept → ℕ → List ℕ → ℕ → ℕ
last_begin kept range ks zero = kept.begin
last_begin kept range ks (suc n) = begin_of kept range (slice_index_or ks n 0)

-- as many rows as documents, of which no token is told
abbrev pub untold : List Entry → List Slots
untold outlines = map (λ o. replicate o.tokens None) outlines

-- the block of the rank's term was put over these rows, with this answer
pub record IsPut (told : Option Files) (cached : Cached) (kept : Kept) (range rank : ℕ) (rows : List Slots) (answer : Result (List Slots) ℕ) : Type 0 where
  pub entries : List BlockEntry
  pub block : IsTermBlock told cached kept (term_of kept.dictionary rank) range entries
  pub put : put_block (begin_of kept range rank) rank entries rows ≡ answer

-- what the blocks of the first n of these ranks tell, each put over those before it
abbrev pub AreRows : Option Files → Cached → Kept → ℕ → List ℕ → ℕ → List Slots → Type 0
AreRows told cached kept range ks zero rows = rows ≡ untold (of_range range kept.outlines)
AreRows told cached kept range ks (suc n) rows = (before : List Slots) × AreRows told cached kept range ks n before × IsPut told cached kept range (slice_index_or ks n 0) before (Ok rows)

-- what all blocks of the range tell
abbrev pub AreAllRows : Option Files → Cached → Kept → ℕ → List Slots → Type 0
AreAllRows told cached kept range rows = AreRows told cached kept range (ranks_of range kept.dictionary) (length (ranks_of range kept.dictionary)) rows

-- where the last block of the range begins
abbrev pub range_end : Kept → ℕ → ℕ
range_end kept range = last_begin kept range (ranks_of range kept.dictionary) (length (ranks_of range kept.dictionary))

-- the documents that the blocks of the range tell
pub record AreTogether (told : Option Files) (cached : Cached) (kept : Kept) (range : ℕ) (docs : List Document) : Type 0 where
  pub rows : List Slots
  pub each : AreAllRows told cached kept range rows
  pub are : documents_of kept.dictionary (of_range range kept.outlines) rows ≡ Some docs

-- the block of this rank breaks there: its bytes are no block, or one of its places isn't free
abbrev pub BlockBreaks : Files → Cached → Kept → ℕ → ℕ → List Slots → ℕ → Type 0
BlockBreaks files cached kept range rank rows place =
    ((p : BlockPlace) × (place_of kept.dictionary (term_of kept.dictionary rank) range ≡ Some p) × IsBlockFault files (key_of kept.number range p) kept.outlines (Malformed (Segment kept.number) parts.Block place))
    ⊎ IsPut (Some files) cached kept range rank rows (Err place)

-- The blocks of the range break at this place of the file. Behind the rows of some of them the next block breaks there; or behind all of them
-- some token isn't told, and the last block begins there.
pub record RangeBreaks (files : Files) (cached : Cached) (kept : Kept) (range place : ℕ) : Type 0 where
  pub count : ℕ
  pub rows : List Slots
  pub so_far : AreRows (Some files) cached kept range (ranks_of range kept.dictionary) count rows
  pub breaks : ((count < length (ranks_of range kept.dictionary)) × BlockBreaks files cached kept range (slice_index_or (ranks_of range kept.dictionary) count 0) rows place)
      ⊎ ((count ≡ length (ranks_of range kept.dictionary)) × (documents_of kept.dictionary (of_range range kept.outlines) rows ≡ None) × (place ≡ range_end kept range))

-- Why the documents of a range can't be put together: its blocks break, which is told where they do, or there is no such file.
abbrev pub IsDocumentsFault : Files → Cached → Kept → ℕ → SegFault → Type 0
IsDocumentsFault files cached kept range (Malformed file part place) = (file ≡ Segment kept.number) × (part ≡ parts.Block) × RangeBreaks files cached kept range place
IsDocumentsFault files cached kept range (Missing file) = (file ≡ Segment kept.number) × ((files (segment_name kept.number)).read ≡ None)
IsDocumentsFault files cached kept range Store = Unit {0}
IsDocumentsFault files cached kept range Memory = Unit {0}

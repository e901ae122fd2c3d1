-- Blocks: as a list of documents has them, and as a file has them.
use Rattle.std.specs.Prelude.{◌≡◌, ℕ, ◌+◌, ◌-◌, ◌*◌, ◌==◌, List, [], ◌∷◌, ◌++◌, Option, Some, None, length, take, drop, unwrap_or, Err}
use Rattle.std.specs.List.{find}
use Rattle.std.specs.Option.{option_map_or}
use Rattle.ri_base.specs.Documents.{Document}
use Rattle.ri_base.specs.Places.{places}
use Rattle.ri_base.specs.declared.seg_fault.FileName.TheVariants.{Segment}
use Rattle.ri_base.specs.declared.seg_fault.PartName.TheVariants as parts
use Rattle.ri_base.specs.declared.seg_fault.SegFault.{SegFault}
use Rattle.ri_base.specs.declared.seg_fault.SegFault.TheVariants.{Malformed, Missing, Store, Memory}
use Rattle.store_ends.specs.Files.{Files}
use Rattle.seg_codec.specs.Blocks.{block}
use Rattle.seg_codec.specs.Fits.{FitBlock}
use Rattle.seg_codec.specs.Spelling.{block_bytes}
use Rattle.seg_codec.specs.declared.blocks.BlockEntry.{BlockEntry}
use Rattle.seg_codec.specs.declared.documents.Entry.{Entry}
use Rattle.disk_index.specs.Names.{segment_name}
use Rattle.disk_index.specs.declared.cache.BlockKey.{BlockKey}

-- the entry of a document with these places; a document without any has none
abbrev pub entry_of_places : ℕ → List ℕ → List BlockEntry
entry_of_places id [] = []
entry_of_places id (p ∷ ps) = record { id = id; positions = p ∷ ps } ∷ []

-- of documents whose ids go up from id, those that have the term, each with its places there
abbrev pub entries_from : ℕ → List ℕ → List Document → List BlockEntry
entries_from id term [] = []
entries_from id term (d ∷ docs) = entry_of_places id (places term d) ++ entries_from (id + 1) term docs

-- of a list by id those with the ids from 64 * range on, 64 at most
abbrev pub of_range : {A : Type 0} → ℕ → List A → List A
of_range range xs = take 64 (drop (64 * range) xs)

-- the block of a term for a range: of the documents of the range those that have it
unfoldable pub block_of : List ℕ → ℕ → List Document → List BlockEntry
block_of term range docs = entries_from (64 * range) term (of_range range docs)

-- the places that a block has in one document
abbrev pub places_of : ℕ → List BlockEntry → List ℕ
places_of id es = option_map_or (λ e. e.positions) (find (λ e. e.id == id) es) []

-- the bytes of the file of a segment, as they are read; none where there is no such file
abbrev pub file_of : Files → ℕ → List ℕ
file_of files number = unwrap_or (files (segment_name number)).read []

-- as they were put
abbrev pub put_of : Files → ℕ → List ℕ
put_of files number = unwrap_or (files (segment_name number)).put []

-- the same where the files are told; none where they aren't
abbrev pub told_file : Option Files → ℕ → List ℕ
told_file None number = []
told_file (Some files) number = put_of files number

-- the bytes that are read where a block stands
abbrev pub bytes_at : Files → BlockKey → List ℕ
bytes_at files key = take key.length (drop key.place (file_of files key.number))

-- the bytes of this block are read there in its file, and it is one of some documents
pub record IsBlockIn (files : Files) (key : BlockKey) (es : List BlockEntry) : Type 0 where
  pub bytes : bytes_at files key ≡ block_bytes key.range es
  pub docs : List Entry
  pub fit : FitBlock docs key.range es

-- why bytes of a segment's file can't be read
abbrev pub IsReadFault : Files → ℕ → SegFault → Type 0
IsReadFault files number (Malformed file part place) = ⊥
IsReadFault files number (Missing file) = (file ≡ Segment number) × ((files (segment_name number)).read ≡ None)
IsReadFault files number Store = Unit {0}
IsReadFault files number Memory = Unit {0}

-- Why a block can't be read: its bytes aren't a block of these documents, and then the place is that of the first bad field, or
-- there is no such file.
abbrev pub IsBlockFault : Files → BlockKey → List Entry → SegFault → Type 0
IsBlockFault files key docs (Malformed file part place) =
    (file ≡ Segment key.number) × (part ≡ parts.Block) × (left : ℕ) × (block docs key.range (bytes_at files key) ≡ Err left) × (place ≡ (key.place + length (bytes_at files key)) - left)
IsBlockFault files key docs (Missing file) = (file ≡ Segment key.number) × ((files (segment_name key.number)).read ≡ None)
IsBlockFault files key docs Store = Unit {0}
IsBlockFault files key docs Memory = Unit {0}

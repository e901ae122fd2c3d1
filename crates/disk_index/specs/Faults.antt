-- Why the places of a document of a part on disk can't be told.
use Rattle.std.specs.Prelude.{◌≡◌, ◌<◌, ◌⊎◌, ◌/◌, ℕ, List, [], Option, None, Some, Result, Err}
use Rattle.std.specs.List.{All, Contains}
use Rattle.std.specs.List.Sorted.{IsStrictlyIncreasing}
use Rattle.std.specs.Option.{MatchOption}
use Rattle.ri_base.specs.Faults.{IsOutside}
use Rattle.ri_base.specs.declared.seg_fault.FileName.{FileName}
use Rattle.ri_base.specs.declared.seg_fault.FileName.TheVariants.{Segment}
use Rattle.ri_base.specs.declared.seg_fault.PartName.{PartName}
use Rattle.ri_base.specs.declared.seg_fault.PartName.TheVariants as parts
use Rattle.ri_base.specs.declared.seg_fault.SegFault.{SegFault}
use Rattle.ri_base.specs.declared.seg_fault.SegFault.TheVariants.{Malformed, Missing, Store, Memory}
use Rattle.store_ends.specs.Files.{Files}
use Rattle.seg_codec.specs.Blocks.{tokens_of}
use Rattle.seg_codec.specs.Fits.{FitBlock}
use Rattle.seg_codec.specs.Spelling.{block_bytes}
use Rattle.seg_codec.specs.declared.blocks.BlockEntry.{BlockEntry}
use Rattle.seg_codec.specs.declared.documents.Entry.{Entry}
use Rattle.disk_index.specs.Blocks.{IsBlockFault, IsBlockIn, bytes_at, places_of}
use Rattle.disk_index.specs.Cache.{Cached}
use Rattle.disk_index.specs.Kept.{Kept, key_of, place_of}
use Rattle.disk_index.specs.Names.{segment_name}
use Rattle.disk_index.specs.Rebuild.{Slots}
use Rattle.disk_index.specs.declared.cache.BlockKey.{BlockKey}

-- a block of these documents, whose bytes the file has there where the files are told
pub record IsRead (told : Option Files) (docs : List Entry) (key : BlockKey) (es : List BlockEntry) : Type 0 where
  pub fit : FitBlock docs key.range es
  pub bytes : (files : Files) → told ≡ Some files → bytes_at files key ≡ block_bytes key.range es

-- a block that was kept under this key, or that was read
abbrev pub CameFrom : Option Files → Cached → List Entry → BlockKey → List BlockEntry → Type 0
CameFrom told cached docs key es = Contains cached.kept (key, es) ⊎ IsRead told docs key es

-- the block of a term for a range: it came from there, and is empty where the dictionary has none
abbrev pub IsTermBlock : Option Files → Cached → Kept → List ℕ → ℕ → List BlockEntry → Type 0
IsTermBlock told cached kept term range es = MatchOption (place_of kept.dictionary term range) (es ≡ []) (λ p. CameFrom told cached kept.outlines (key_of kept.number range p) es)

-- the places that this block has in the document
pub record AreTold (told : Option Files) (cached : Cached) (kept : Kept) (term : List ℕ) (id : ℕ) (ps : List ℕ) : Type 0 where
  pub entries : List BlockEntry
  pub block : IsTermBlock told cached kept term (id / 64) entries
  pub places : ps ≡ places_of id entries

-- a block of this key is kept, or the file has one there where the files are told
pub record IsReadable (told : Option Files) (cached : Cached) (key : BlockKey) : Type 0 where
  pub entries : List BlockEntry
  pub here : Contains cached.kept (key, entries) ⊎ ((files : Files) → told ≡ Some files → IsBlockIn files key entries)

-- the same of the block of a term for a range, where the dictionary has one
abbrev pub IsTermReadable : Option Files → Cached → Kept → List ℕ → ℕ → Type 0
IsTermReadable told cached kept term range = MatchOption (place_of kept.dictionary term range) (Unit {0}) (λ p. IsReadable told cached (key_of kept.number range p))

-- rising places of a document of so many tokens
pub record ArePlacesIn (size : ℕ) (ps : List ℕ) : Type 0 where
  pub rising : IsStrictlyIncreasing ps
  pub below : All (λ p. p < size) ps

-- a block is kept under this key whose places in the document aren't rising places of it; the fault is told at the block's begin
pub record IsKeptFault (cached : Cached) (docs : List Entry) (id : ℕ) (key : BlockKey) (file : FileName) (part : PartName) (place : ℕ) : Type 0 where
  pub file_is : file ≡ Segment key.number
  pub part_is : part ≡ parts.Block
  pub place_is : place ≡ key.place
  pub entries : List BlockEntry
  pub is_kept : Contains cached.kept (key, entries)
  pub wrong : ArePlacesIn (tokens_of docs id) (places_of id entries) → ⊥

-- why the places that the block of this key has in a document can't be told: it can't be read, or a wrong one is kept
abbrev pub IsPlacesFault : Files → Cached → List Entry → ℕ → BlockKey → SegFault → Type 0
IsPlacesFault files kept docs id key (Malformed file part place) = IsBlockFault files key docs (Malformed file part place) ⊎ IsKeptFault kept docs id key file part place
IsPlacesFault files kept docs id key (Missing file) = IsBlockFault files key docs (Missing file)
IsPlacesFault files kept docs id key Store = Unit {0}
IsPlacesFault files kept docs id key Memory = Unit {0}

-- The same of the places of a term. Where the dictionary has no such block, no file is to blame.
abbrev pub IsTermFault : Files → Cached → Kept → List ℕ → ℕ → SegFault → Type 0
IsTermFault files cached kept term id fault =
    MatchOption (place_of kept.dictionary term (id / 64)) (IsOutside fault) (λ p. IsPlacesFault files cached kept.outlines id (key_of kept.number (id / 64) p) fault)

-- why the blocks of a range can't be read: one of the file is malformed, or there is no such file
abbrev pub IsRangeFault : Files → ℕ → SegFault → Type 0
IsRangeFault files number (Malformed file part place) = (file ≡ Segment number) × (part ≡ parts.Block)
IsRangeFault files number (Missing file) = (file ≡ Segment number) × ((files (segment_name number)).read ≡ None)
IsRangeFault files number Store = Unit {0}
IsRangeFault files number Memory = Unit {0}

-- the fault of a block of this file, at this place
abbrev pub block_fault : ℕ → ℕ → SegFault
block_fault number place = Malformed (Segment number) parts.Block place

-- a block couldn't be put, and is malformed where that ended
abbrev pub IsUnput : ℕ → Result (List Slots) ℕ → SegFault → Type 0
IsUnput number answer fault = (place : ℕ) × (answer ≡ Err place) × (fault ≡ block_fault number place)

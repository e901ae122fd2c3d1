-- What a part reads as, together with the files, and when it is backed.
use Rattle.std.specs.Prelude.{◌≡◌, ◌≤◌, ◌/◌, ℕ, List, length, map, Option}
use Rattle.ri_base.specs.Collection.{document_at}
use Rattle.ri_base.specs.Documents.{Document}
use Rattle.ri_base.specs.Faults.{IsOutside}
use Rattle.ri_base.specs.Places.{places}
use Rattle.ri_base.specs.declared.seg_fault.SegFault.{SegFault}
use Rattle.store_ends.specs.Files.{Files, IsQuiet}
use Rattle.seg_codec.specs.Segment.{entry_of}
use Rattle.seg_codec.specs.declared.documents.Entry.{Entry}
use Rattle.disk_index.specs.Blocks.{of_range, told_file}
use Rattle.disk_index.specs.Cache.{CacheKeeps, Cached, IsBlockOf, KeptBlock}
use Rattle.disk_index.specs.Faults.{AreTold, IsRangeFault, IsTermFault, IsTermReadable}
use Rattle.disk_index.specs.Kept.{Kept}
use Rattle.disk_index.specs.Reads.{IsBacked, IsIntact, rebuilt}
use Rattle.disk_index.specs.Together.{AreTogether, IsDocumentsFault}
use Rattle.disk_index.specs.declared.part.Part.{Part}
use Rattle.disk_index.specs.declared.part.Part.TheVariants.{Memory, Disk}

-- where the documents of a part are
pub data Source : Type 0 where
  InMemory : List Document → Source
  OnDisk : Kept → Source

abbrev pub source_of : Part → Source
source_of (Memory sealed) = InMemory sealed.value
source_of (Disk index) = OnDisk index.value

-- the documents of a part; one on disk is read together with its file
abbrev pub reads : Option Files → Source → List Document
reads told (InMemory docs) = docs
reads told (OnDisk kept) = rebuilt kept (told_file told kept.number)

-- how many documents it has, whatever the files are
abbrev pub size : Source → ℕ
size (InMemory docs) = length docs
size (OnDisk kept) = length kept.outlines

-- its documents without their tokens, whatever the files are
abbrev pub outlines_of : Source → List Entry
outlines_of (InMemory docs) = map entry_of docs
outlines_of (OnDisk kept) = kept.outlines

-- a block of the documents of the part, in its file
abbrev pub IsFileOf : Source → KeptBlock → Type 0
IsFileOf (InMemory docs) e = ⊥
IsFileOf (OnDisk kept) e = IsBlockOf kept e

-- its file is told and there, and the segment of just the documents of which it keeps docnos, lengths, fields and dictionary was put there
abbrev pub IsPartBacked : Option Files → Source → Type 0
IsPartBacked told (InMemory docs) = Unit {0}
IsPartBacked told (OnDisk kept) = (docs : List Document) × IsBacked told kept docs

-- and its file is read as it was put
abbrev pub IsPartIntact : Option Files → Source → Type 0
IsPartIntact told (InMemory docs) = Unit {0}
IsPartIntact told (OnDisk kept) = ((docs : List Document) × IsBacked told kept docs) × IsIntact told kept.number

-- why the places of a term in a document of the part can't be told; of one in memory no file is to blame
abbrev pub IsPartFault : Files → Cached → Source → List ℕ → ℕ → SegFault → Type 0
IsPartFault files cached (InMemory docs) term id fault = IsOutside fault
IsPartFault files cached (OnDisk kept) term id fault = IsTermFault files cached kept term id fault

-- what may be told as the places of a term in a document of the part: of one on disk those of a block that was kept or read
abbrev pub ArePlacesOf : Option Files → Cached → Source → List ℕ → ℕ → List ℕ → Type 0
ArePlacesOf told cached (InMemory docs) term id ps = ps ≡ places term (document_at docs id)
ArePlacesOf told cached (OnDisk kept) term id ps = AreTold told cached kept term id ps

-- the block of the term for a range can be read, where there is one; a part in memory has no blocks
abbrev pub IsReadableIn : Option Files → Cached → Source → List ℕ → ℕ → Type 0
IsReadableIn told cached (InMemory docs) term range = Unit {0}
IsReadableIn told cached (OnDisk kept) term range = IsTermReadable told cached kept term range

-- the same of the range of a document
abbrev pub IsReadableOf : Option Files → Cached → Source → List ℕ → ℕ → Type 0
IsReadableOf told cached p term id = IsReadableIn told cached p term (id / 64)

-- what may be read as the documents of a range of the part: of one on disk what the blocks of the range tell
abbrev pub AreRangeOf : Option Files → Cached → Source → ℕ → List Document → Type 0
AreRangeOf told cached (InMemory docs) range found = found ≡ of_range range docs
AreRangeOf told cached (OnDisk kept) range found = AreTogether told cached kept range found

-- why the documents of a range of the part can't be put together; of one in memory no file is to blame
abbrev pub IsRangeFaultOf : Files → Cached → Source → ℕ → SegFault → Type 0
IsRangeFaultOf files cached (InMemory docs) range fault = IsOutside fault
IsRangeFaultOf files cached (OnDisk kept) range fault = IsDocumentsFault files cached kept range fault

-- why blocks of the part can't be read; of one in memory no file is to blame
abbrev pub IsSourceFault : Files → Source → SegFault → Type 0
IsSourceFault files (InMemory docs) fault = IsOutside fault
IsSourceFault files (OnDisk kept) fault = IsRangeFault files kept.number fault

-- A reader's second state differs from the first by no more than reading may change: the part is the same, store and cache stand
-- behind the same references, the store is as a reading call leaves it, and the cache has nothing new but blocks of the part's file.
pub record IsQuietReader {S : Type 0} (files : S → Option Files) (layers : S → Option (List Files)) (clock : S → ℕ) (since : S → ℕ → Files → Type 0)
    (longest : S → ℕ) (held : S → List ℕ) (faults : S → ℕ) (p q : Source) (sn sm cn cm : ℕ) (s t : S) (c d : Cached) : Type 0 where
  pub same_part : q ≡ p
  pub same_store : sm ≡ sn
  pub same_cache : cm ≡ cn
  pub store : IsQuiet files layers clock since longest held s t
  pub no_fault_lost : faults s ≤ faults t
  pub cache : CacheKeeps (files s) (IsFileOf p) c d

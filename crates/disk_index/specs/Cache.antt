-- What a cache of blocks keeps.
use Rattle.std.specs.Prelude.{◌≡◌, ◌⊎◌, List, [], map, Option, None, Some}
use Rattle.std.specs.List.{Contains}
use Rattle.ri_base.specs.declared.seg_fault.SegFault.{SegFault}
use Rattle.ri_base.specs.Documents.{Document}
use Rattle.store_ends.specs.Files.{Files}
use Rattle.seg_codec.specs.Fits.{FitBlock}
use Rattle.seg_codec.specs.Segment.{entry_of}
use Rattle.seg_codec.specs.declared.blocks.BlockEntry.{BlockEntry}
use Rattle.disk_index.specs.Blocks.{IsBlockIn}
use Rattle.disk_index.specs.Kept.{Kept}
use Rattle.disk_index.specs.Reads.{HasSegment}
use Rattle.disk_index.specs.declared.cache.BlockKey.{BlockKey}

-- a block with the place where it was read
abbrev pub KeptBlock : Type 0
KeptBlock = BlockKey × List BlockEntry

-- the blocks that a cache keeps, and the last damage that was met by reading through it: a file that is malformed or missing
pub record Cached : Type 0 where
  pub kept : List KeptBlock
  pub damage : Option SegFault

-- a new cache
abbrev pub nothing_cached : Cached
nothing_cached = record { kept = []; damage = None }

-- the same cache without its blocks
abbrev pub without_blocks : Cached → Cached
without_blocks c = record { kept = []; damage = c.damage }

-- all that stands in the second list stands in the first
abbrev pub AllIn : List KeptBlock → List KeptBlock → Type 0
AllIn old new = (e : KeptBlock) → Contains new e → Contains old e

-- all that is kept now was kept before
abbrev pub AllKept : Cached → Cached → Type 0
AllKept old new = AllIn old.kept new.kept

-- a block of documents whose segment was put in its file, if there are some
abbrev pub FitsSegment : Option Files → KeptBlock → Type 0
FitsSegment told e = (docs : List Document) → HasSegment told e.0.number docs → FitBlock (map entry_of docs) e.0.range e.1

-- each block that is kept is the one that is read in its file, where the files are told, and fits the segment that was put there
abbrev pub IsCacheBacked : Option Files → Cached → Type 0
IsCacheBacked told cached = (files : Files) → told ≡ Some files → (e : KeptBlock) → Contains cached.kept e → IsBlockIn files e.0 e.1 × FitsSegment told e

-- what was added are blocks of which this holds, as they are read in their files where these are told
pub record CacheKeeps (told : Option Files) (IsOwn : KeptBlock → Type 0) (old new : Cached) : Type 0 where
  pub each : (e : KeptBlock) → Contains new.kept e → Contains old.kept e ⊎ IsOwn e × ((files : Files) → told ≡ Some files → IsBlockIn files e.0 e.1)

-- a block of the documents of this part, in its file
abbrev pub IsBlockOf : Kept → KeptBlock → Type 0
IsBlockOf kept e = (e.0.number ≡ kept.number) × FitBlock kept.outlines e.0.range e.1

-- What several readings leave of a store and of a cache of blocks, and what a fault says.
use Rattle.std.specs.Prelude.{◌≤◌, ◌⊎◌, ℕ, List, Option, Contains}
use Rattle.ri_base.specs.Faults.{IsOutside}
use Rattle.ri_base.specs.declared.seg_fault.SegFault.{SegFault}
use Rattle.store_ends.specs.Files.{Files, IsQuiet}
use Rattle.disk_index.specs.Cache.{CacheKeeps, Cached, IsCacheBacked, KeptBlock}
use Rattle.disk_index.specs.Parts.{IsPartIntact}
use Rattle.disk_index.specs.Snapshots.{AreBacked, Marked}

-- nothing of the store changed but its count of faults, which didn't fall, and the cache has nothing new but blocks of these files
pub record OnlyReads {S : Type 0} (files : S → Option Files) (layers : S → Option (List Files)) (clock : S → ℕ) (since : S → ℕ → Files → Type 0)
    (longest : S → ℕ) (held : S → List ℕ) (faults : S → ℕ) (IsOwn : KeptBlock → Type 0) (s t : S) (c d : Cached) : Type 0 where
  pub quiet : IsQuiet files layers clock since longest held s t
  pub later : faults s ≤ faults t
  pub cache : CacheKeeps (files s) IsOwn c d

-- The store failed or memory was wanting. Or there is a part whose file isn't read as it was put, where all parts and the cache are backed.
abbrev pub IsFaultOf : Option Files → List Marked → Cached → SegFault → Type 0
IsFaultOf told parts cached fault = IsOutside fault ⊎ ((m : Marked) × Contains parts m × (AreBacked told parts → IsPartIntact told m.source → IsCacheBacked told cached → ⊥))

-- What passing documents leaves of a store, of a cache of blocks, and of the blocks that are held.
use Rattle.std.specs.Prelude.{◌≤◌, ℕ, List, Option}
use Rattle.store_ends.specs.Files.{Files, IsQuiet}
use Rattle.disk_index.specs.Cache.{CacheKeeps, Cached, KeptBlock}
use Rattle.disk_index.specs.Parts.{Source, outlines_of, reads}
use Rattle.range_masks.specs.Held.{FitDocuments, Held}
use Rattle.ranker.specs.Blocks.{AreReadBy}

-- Nothing of the store changed but its count of faults, which didn't fall. The cache has nothing new but blocks of these files. What is
-- held fits the part that comes next, and where these files are backed it stays read: before from the one part, now from the next.
pub record OnlyReads {S : Type 0} (files : S → Option Files) (layers : S → Option (List Files)) (clock : S → ℕ) (since : S → ℕ → Files → Type 0) (longest : S → ℕ) (held : S → List ℕ) (faults : S → ℕ)
    (IsOwn : KeptBlock → Type 0) (AreOwn : Option Files → Type 0) (part next : Source) (s t : S) (c d : Cached) (was now : Held) : Type 0 where
  pub quiet : IsQuiet files layers clock since longest held s t
  pub later : faults s ≤ faults t
  pub cache : CacheKeeps (files s) IsOwn c d
  pub fits : FitDocuments (outlines_of next) now
  pub read : AreOwn (files s) → AreReadBy (files s) (reads (files s) part) c was → AreReadBy (files s) (reads (files s) next) d now

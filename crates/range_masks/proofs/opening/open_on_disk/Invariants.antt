use Rattle.std.proofs.Common.{◌≡◌, ◌≤◌, ◌+◌, ℕ, List, true, is_some, take}
use Rattle.std.specs.List.{All}
use Rattle.ri_base.specs.Documents.{Document}
use Rattle.store_ends.specs.Files.{IsQuiet}
use Rattle.disk_index.specs.Cache.{CacheKeeps, IsCacheBacked, IsBlockOf}
use Rattle.disk_index.specs.Faults.{IsTermReadable}
use Rattle.disk_index.specs.Reads.{IsBacked}
use Rattle.range_masks.specs.Held.{AreBlocksOf, FitDocuments, HasAll, block_in}
use Rattle.range_masks.proofs.opening.open_on_disk.Given as goal

abbrev pub invariant-loop-term : goal.invariant-loop-term
invariant-loop-term g l = record {
  quiet : IsQuiet g.T.Store.files g.T.Store.layers g.T.Store.clock g.T.Store.since g.T.Store.longest g.T.Store.held l.initial.store l.store;
  later : g.T.Store.faults l.initial.store ≤ g.T.Store.faults l.store;
  cache : CacheKeeps (g.T.Store.files l.initial.store) (IsBlockOf l.index) l.initial.cache l.cache;
  undamaged : l.cache.damage ≡ l.initial.cache.damage;
  range : l.held.range ≡ l.range;
  opened : l.blocks ≡ l.initial.blocks + l.held.opened;
  cost : l.blocks ≤ l.initial.blocks + l.term-index;
  fits : FitDocuments l.index.outlines l.held;
  exact : (docs : List Document) → IsBacked (g.T.Store.files l.initial.store) l.index docs → IsCacheBacked (g.T.Store.files l.initial.store) l.initial.cache → AreBlocksOf docs l.held;
  each : (docs : List Document) → IsBacked (g.T.Store.files l.initial.store) l.index docs → IsCacheBacked (g.T.Store.files l.initial.store) l.initial.cache → HasAll (take l.term-index l.terms) l.held;
  told : All (λ t. IsTermReadable (g.T.Store.files l.initial.store) l.initial.cache l.index t l.range) (take l.term-index l.terms);
  held : (t : List ℕ) → is_some (block_in l.held t) ≡ true → IsTermReadable (g.T.Store.files l.initial.store) l.initial.cache l.index t l.range;
}

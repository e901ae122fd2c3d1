use Rattle.std.proofs.Common.{◌≡◌, ◌≤◌, length, map, take}
use Rattle.store_ends.specs.Files.{IsQuiet}
use Rattle.query_check.specs.Leaves.{leaf_tree}
use Rattle.disk_index.specs.Cache.{CacheKeeps, IsCacheBacked}
use Rattle.disk_index.specs.Parts.{reads}
use Rattle.disk_index.specs.Snapshots.{AreBacked, IsFileAmong}
use Rattle.range_bounds.specs.Tables.{AreTablesOf}
use Rattle.range_tables.proofs.part_tables.tables.Given as goal

abbrev pub invariant-loop-marked : goal.invariant-loop-marked
invariant-loop-marked g l = record {
  exact : AreBacked (g.T.Store.files l.fn.store) l.parts → IsCacheBacked (g.T.Store.files l.fn.store) l.fn.cache
      → AreTablesOf (map leaf_tree l.leaves) (map (λ m. reads (g.T.Store.files l.fn.store) m.source) (take l.marked-index l.parts)) l.tables.items;
  each : length l.tables.items ≡ l.marked-index;
  cache : CacheKeeps (g.T.Store.files l.fn.store) (IsFileAmong l.parts) l.fn.cache l.cache;
  undamaged : l.cache.damage ≡ l.fn.cache.damage;
  quiet : IsQuiet g.T.Store.files g.T.Store.layers g.T.Store.clock g.T.Store.since g.T.Store.longest g.T.Store.held l.fn.store l.store;
  later : g.T.Store.faults l.fn.store ≤ g.T.Store.faults l.store;
}

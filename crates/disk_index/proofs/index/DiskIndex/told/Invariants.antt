use Rattle.std.proofs.Common.{◌≡◌, ◌≤◌, List, length, take}
use Rattle.ri_base.specs.Documents.{Document}
use Rattle.store_ends.specs.Files.{IsQuiet}
use Rattle.seg_codec.specs.Held.{lengths_of}
use Rattle.disk_index.specs.Blocks.{of_range}
use Rattle.disk_index.specs.Cache.{AllKept, IsCacheBacked}
use Rattle.disk_index.specs.Reads.{IsBacked}
use Rattle.disk_index.specs.Rebuild.{lengths, rows_of}
use Rattle.disk_index.specs.Together.{AreRows, last_begin}
use Rattle.disk_index.proofs.index.DiskIndex.told.Given as goal

abbrev pub invariant-loop-rank : goal.invariant-loop-rank
invariant-loop-rank g l = record {
  quiet : IsQuiet g.T.Store.files g.T.Store.layers g.T.Store.clock g.T.Store.since g.T.Store.longest g.T.Store.held l.initial.store l.store;
  later : g.T.Store.faults l.initial.store ≤ g.T.Store.faults l.store;
  same : g.T.Store.faults l.store ≡ g.T.Store.faults l.initial.store;
  cache : AllKept l.initial.cache l.cache;
  undamaged : l.cache.damage ≡ l.initial.cache.damage;
  within : l.rank-index ≤ length l.ranks;
  told : AreRows (g.T.Store.files l.initial.store) l.initial.cache l.self l.range l.ranks l.rank-index l.rows.items;
  last : l.last ≡ last_begin l.self l.range l.ranks l.rank-index;
  shape : lengths l.rows.items ≡ lengths_of (of_range l.range l.self.outlines);
  so_far : (docs : List Document) → IsBacked (g.T.Store.files l.initial.store) l.self docs → IsCacheBacked (g.T.Store.files l.initial.store) l.initial.cache
      → l.rows.items ≡ rows_of l.self.dictionary (take l.rank-index l.ranks) (of_range l.range docs);
}

use Rattle.std.proofs.Common.{◌≡◌, ◌≤◌, ◌++◌, length, map}
use Rattle.store_ends.specs.Files.{IsQuiet}
use Rattle.seg_codec.specs.Segment.{entry_of}
use Rattle.disk_index.specs.Cache.{AllKept, IsCacheBacked}
use Rattle.disk_index.specs.Parts.{reads}
use Rattle.disk_index.specs.Snapshots.{AreBacked}
use Rattle.merge_job.specs.Walk.{entries, rest}
use Rattle.merge_job.proofs.copying.copy.Given as goal

abbrev pub invariant-loop-number : goal.invariant-loop-number
invariant-loop-number g l = record {
  at : l.place.part ≡ l.number;
  entries : map entry_of l.copied.docs ++ rest entries l.parts l.place.part l.place.id ≡ map entry_of l.fn.copied.docs ++ rest entries l.parts l.fn.place.part l.fn.place.id;
  exact : AreBacked (g.T.Store.files l.fn.store) l.parts → IsCacheBacked (g.T.Store.files l.fn.store) l.fn.cache
      → l.copied.docs ++ rest (reads (g.T.Store.files l.fn.store)) l.parts l.place.part l.place.id ≡ l.fn.copied.docs ++ rest (reads (g.T.Store.files l.fn.store)) l.parts l.fn.place.part l.fn.place.id;
  goal : length l.copied.docs ≤ l.goal;
  most : l.copied.most ≡ l.fn.copied.most;
  cache : AllKept l.fn.cache l.cache;
  undamaged : l.cache.damage ≡ l.fn.cache.damage;
  quiet : IsQuiet g.T.Store.files g.T.Store.layers g.T.Store.clock g.T.Store.since g.T.Store.longest g.T.Store.held l.fn.store l.store;
  later : g.T.Store.faults l.fn.store ≤ g.T.Store.faults l.store;
  same : g.T.Store.faults l.store ≡ g.T.Store.faults l.fn.store;
}

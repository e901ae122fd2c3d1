use Rattle.std.proofs.Common.{◌≡◌, ◌≤◌, ◌++◌, length, map, IfSome}
use Rattle.store_ends.specs.Files.{IsQuiet}
use Rattle.seg_codec.specs.Segment.{entry_of}
use Rattle.disk_index.specs.Cache.{AllKept, IsCacheBacked}
use Rattle.disk_index.specs.Parts.{IsPartBacked, reads}
use Rattle.merge_job.specs.Range.{IsRange, IsRangeNow}
use Rattle.merge_job.specs.Walk.{entries, rest_in}
use Rattle.merge_job.proofs.copying.copy_part.Given as goal

abbrev pub invariant-loop-i : goal.invariant-loop-i
invariant-loop-i g l = record {
  at : l.id ≡ l.i;
  entries : map entry_of l.copied.docs ++ rest_in entries l.marked l.i ≡ map entry_of l.fn.copied.docs ++ rest_in entries l.marked l.fn.id;
  exact : IsPartBacked (g.T.Store.files l.fn.store) l.marked.source → IsCacheBacked (g.T.Store.files l.fn.store) l.fn.cache
      → l.copied.docs ++ rest_in (reads (g.T.Store.files l.fn.store)) l.marked l.i ≡ l.fn.copied.docs ++ rest_in (reads (g.T.Store.files l.fn.store)) l.marked l.fn.id;
  range : IfSome l.last (IsRange l.marked.source);
  range_now : IsPartBacked (g.T.Store.files l.fn.store) l.marked.source → IsCacheBacked (g.T.Store.files l.fn.store) l.fn.cache → IfSome l.last (IsRangeNow (g.T.Store.files l.fn.store) l.marked.source);
  goal : length l.copied.docs ≤ l.goal;
  most : l.copied.most ≡ l.fn.copied.most;
  cache : AllKept l.fn.cache l.cache;
  undamaged : l.cache.damage ≡ l.fn.cache.damage;
  quiet : IsQuiet g.T.Store.files g.T.Store.layers g.T.Store.clock g.T.Store.since g.T.Store.longest g.T.Store.held l.fn.store l.store;
  later : g.T.Store.faults l.fn.store ≤ g.T.Store.faults l.store;
  same : g.T.Store.faults l.store ≡ g.T.Store.faults l.fn.store;
}

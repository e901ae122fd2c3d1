use Rattle.std.proofs.Common.{◌≡◌, take}
use Rattle.ri_base.specs.Expression.{expr_tree}
use Rattle.disk_index.specs.Cache.{IsCacheBacked}
use Rattle.disk_index.specs.Snapshots.{AreBacked, IsFileAmong, live}
use Rattle.counts.specs.Reading.{OnlyReads}
use Rattle.desk.specs.Scanning.{extents_in}
use Rattle.desk.proofs.scanning.scan.Given as goal

abbrev pub invariant-loop-marked : goal.invariant-loop-marked
invariant-loop-marked g l = record {
  lines : AreBacked (g.T.Store.files l.initial.store) l.parts → IsCacheBacked (g.T.Store.files l.initial.store) l.initial.cache
      → l.lines ≡ extents_in (expr_tree l.expr) (live (g.T.Store.files l.initial.store) (take l.marked-index l.parts));
  reads : OnlyReads g.T.Store.files g.T.Store.layers g.T.Store.clock g.T.Store.since g.T.Store.longest g.T.Store.held g.T.Store.faults (IsFileAmong l.parts) l.initial.store l.store l.initial.cache l.cache;
  undamaged : l.cache.damage ≡ l.initial.cache.damage;
}

use Rattle.std.proofs.Common.{◌≡◌, ◌++◌, List}
use Rattle.ri_base.specs.Documents.{Document}
use Rattle.ri_base.specs.Expression.{expr_tree}
use Rattle.disk_index.specs.Cache.{IsCacheBacked}
use Rattle.disk_index.specs.Parts.{IsFileOf, IsPartBacked}
use Rattle.counts.specs.Reading.{OnlyReads}
use Rattle.ranker.specs.Passed.{live_before}
use Rattle.desk.specs.Scanning.{extents_in}
use Rattle.desk.proofs.scanning.put_part.Given as goal

abbrev pub invariant-loop-id : goal.invariant-loop-id
invariant-loop-id g l = record {
  lines : IsPartBacked (g.T.Store.files l.initial.store) l.marked.source → IsCacheBacked (g.T.Store.files l.initial.store) l.initial.cache → (docs : List Document)
      → l.initial.lines ≡ extents_in (expr_tree l.expr) docs → l.lines ≡ extents_in (expr_tree l.expr) (docs ++ live_before (g.T.Store.files l.initial.store) l.marked l.id);
  reads : OnlyReads g.T.Store.files g.T.Store.layers g.T.Store.clock g.T.Store.since g.T.Store.longest g.T.Store.held g.T.Store.faults (IsFileOf l.marked.source) l.initial.store l.store l.initial.cache l.cache;
  undamaged : l.cache.damage ≡ l.initial.cache.damage;
}

use Rattle.std.proofs.Common.{◌≡◌, ◌≤◌, option_copied, sum_by, take}
use Rattle.ri_base.specs.Expression.{expr_tree}
use Rattle.disk_index.specs.Cache.{IsCacheBacked}
use Rattle.disk_index.specs.Snapshots.{AreBacked, IsFileAmong, live}
use Rattle.counts.specs.Reading.{OnlyReads}
use Rattle.counts.specs.Sums.{counted_tokens, occurrences}
use Rattle.counts.specs.Told.{ArePartsTold}
use Rattle.counts.proofs.sums.in_parts.Given as goal

abbrev pub invariant-loop-marked : goal.invariant-loop-marked
invariant-loop-marked g l = record {
  counted : AreBacked (g.T.Store.files l.initial.store) l.parts → IsCacheBacked (g.T.Store.files l.initial.store) l.initial.cache
      → l.count ≡ sum_by (occurrences (expr_tree l.expr) (option_copied l.context)) (live (g.T.Store.files l.initial.store) (take l.marked-index l.parts));
  few : l.count ≤ sum_by (counted_tokens (option_copied l.context)) (live (g.T.Store.files l.initial.store) (take l.marked-index l.parts));
  told : ArePartsTold (g.T.Store.files l.initial.store) l.initial.cache (expr_tree l.expr) (take l.marked-index l.parts);
  reads : OnlyReads g.T.Store.files g.T.Store.layers g.T.Store.clock g.T.Store.since g.T.Store.longest g.T.Store.held g.T.Store.faults (IsFileAmong l.parts) l.initial.store l.store l.initial.cache l.cache;
  undamaged : l.cache.damage ≡ l.initial.cache.damage;
}

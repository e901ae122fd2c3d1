use Rattle.std.proofs.Common.{◌≡◌, ◌<◌, ◌≤◌, ◌+◌, ℕ, option_copied}
use Rattle.ri_base.specs.Expression.{expr_tree}
use Rattle.disk_index.specs.Cache.{IsCacheBacked}
use Rattle.disk_index.specs.Parts.{IsFileOf, IsPartBacked}
use Rattle.counts.specs.PartSums.{sum_first}
use Rattle.counts.specs.Reading.{OnlyReads}
use Rattle.counts.specs.Sums.{counted_tokens, occurrences}
use Rattle.counts.specs.Told.{IsLiveTold}
use Rattle.counts.proofs.sums.in_range.Given as goal

abbrev pub invariant-loop-id : goal.invariant-loop-id
invariant-loop-id g l = record {
  counted : IsPartBacked (g.T.Store.files l.initial.store) l.marked.source → IsCacheBacked (g.T.Store.files l.initial.store) l.initial.cache
      → sum_first (occurrences (expr_tree l.expr) (option_copied l.context)) (g.T.Store.files l.initial.store) l.marked l.first + l.count
      ≡ sum_first (occurrences (expr_tree l.expr) (option_copied l.context)) (g.T.Store.files l.initial.store) l.marked l.id;
  few : sum_first (counted_tokens (option_copied l.context)) (g.T.Store.files l.initial.store) l.marked l.first + l.count
      ≤ sum_first (counted_tokens (option_copied l.context)) (g.T.Store.files l.initial.store) l.marked l.id;
  told : (id : ℕ) → l.first ≤ id → id < l.id → IsLiveTold (g.T.Store.files l.initial.store) l.initial.cache (expr_tree l.expr) l.marked id;
  reads : OnlyReads g.T.Store.files g.T.Store.layers g.T.Store.clock g.T.Store.since g.T.Store.longest g.T.Store.held g.T.Store.faults (IsFileOf l.marked.source) l.initial.store l.store l.initial.cache l.cache;
  undamaged : l.cache.damage ≡ l.initial.cache.damage;
}

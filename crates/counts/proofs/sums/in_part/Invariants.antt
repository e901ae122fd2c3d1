use Rattle.std.proofs.Common.{◌≡◌, ◌<◌, ◌≤◌, ◌*◌, ◌/◌, ℕ, option_copied}
use Rattle.ri_base.specs.Expression.{expr_tree}
use Rattle.disk_index.specs.Cache.{IsCacheBacked}
use Rattle.disk_index.specs.Parts.{IsFileOf, IsPartBacked, size}
use Rattle.counts.specs.PartSums.{sum_first}
use Rattle.counts.specs.Reading.{OnlyReads}
use Rattle.counts.specs.Sums.{counted_tokens, occurrences}
use Rattle.counts.specs.Told.{IsLiveTold}
use Rattle.counts.proofs.sums.in_part.Given as goal

abbrev pub invariant-loop-range : goal.invariant-loop-range
invariant-loop-range g l = record {
  counted : IsPartBacked (g.T.Store.files l.initial.store) l.marked.source → IsCacheBacked (g.T.Store.files l.initial.store) l.initial.cache
      → l.count ≡ sum_first (occurrences (expr_tree l.expr) (option_copied l.context)) (g.T.Store.files l.initial.store) l.marked (64 * l.range);
  few : l.count ≤ sum_first (counted_tokens (option_copied l.context)) (g.T.Store.files l.initial.store) l.marked (64 * l.range);
  told : (id : ℕ) → id < size l.marked.source → id / 64 < l.range → IsLiveTold (g.T.Store.files l.initial.store) l.initial.cache (expr_tree l.expr) l.marked id;
  reads : OnlyReads g.T.Store.files g.T.Store.layers g.T.Store.clock g.T.Store.since g.T.Store.longest g.T.Store.held g.T.Store.faults (IsFileOf l.marked.source) l.initial.store l.store l.initial.cache l.cache;
  undamaged : l.cache.damage ≡ l.initial.cache.damage;
}

use Rattle.std.proofs.Common.{◌≤◌, take, Some}
use Rattle.std.specs.List.{list_all}
use Rattle.ri_base.specs.Query.{filter_tree}
use Rattle.range_masks.specs.May.{filter_may}
use Rattle.range_masks.specs.Next.{IsPassed}
use Rattle.range_masks.proofs.next.next_of_filters.Given as goal

abbrev pub invariant-loop-filter : goal.invariant-loop-filter
invariant-loop-filter g l = record {
  forward : l.from ≤ l.next;
  passed : g.P.Postings.sound l.part → IsPassed (λ d. list_all (λ f. filter_may (filter_tree f) d) (take l.filter-index l.filters)) (g.P.Postings.documents l.part) l.from (Some l.next);
}

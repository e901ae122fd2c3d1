use Rattle.std.proofs.Common.{rules, ◌≡◌, true, false, ◌<◌, ◌≤◌, ◌-◌, List, get_or, length, leb, ◌∙◌, sym, ap, subst, arith}
use Rattle.std.specs.List.Sorted.{IsPartitionPoint}
use Rattle.std.proofs.lemmas.Bool.Decides.{nat_tests}
use Rattle.std.proofs.lemmas.List.Sorted.{IsPartitionPoint-from_clause, IsPartitionedBy-leb}
use Rattle.ri_base.specs.Pair.{Pair}
use Rattle.extent_lists.specs.Rows.{end_at}
use Rattle.extent_walks.specs.Next.{EndsRise}
use Rattle.extent_lists.specs.Plans.{LiesInSome}
use Rattle.extent_lists.specs.Rows.{IsAscending}
use Rattle.extent_lists.proofs.RowLemmas.{begins_ascend}
use Rattle.extent_walks.proofs.PlaceLemmas.{end_is_at, last-lies, lies-last}
use Rattle.extent_walks.proofs.outermost.Outermost.holds.Goals as goal
use Rattle.extent_walks.proofs.outermost.Outermost.holds.Goals.{After-partition_point-count}

rise : (c : After-partition_point-count) → EndsRise c.deref.result.now
rise c = rw c.deref.ensures.value c.self.invariant.1

-- those before the place begin no later
place : (c : After-partition_point-count)
    → IsPartitionPoint (λ (y : Pair). leb y.begin c.args.x.begin ≡ true) (λ (y : Pair). leb y.begin c.args.x.begin ≡ false) c.deref.result.now c.partition_point-count.result
place c =
    let xs = c.deref.result.now in
    let b = c.args.x.begin in
    let up : IsAscending xs = rw c.deref.ensures.value c.self.invariant.0 in
    IsPartitionPoint-from_clause (λ (x : Pair). leb x.begin b) xs c.partition_point-count.result c.partition_point-count.ensures.partitioned (IsPartitionedBy-leb (λ (x : Pair). x.begin) xs b (begins_ascend xs up)) (λ a r f t. search rules)

pub returns-then-count-gt0 : goal.returns-then-count-gt0
returns-then-count-gt0 c =
    let here = (goal.at.returns-then-count-gt0 c).After-partition_point-count in
    let xs = c.deref.result.now in
    let b = c.args.x.begin in
    let count = c.partition_point-count.result in
    let x = c.index.result.now in
    let inside : count - 1 < length xs = omega (arith, c.partition_point-count.ensures.bound, c.if-count-gt0.true) in
    let read : x ≡ get_or xs (count - 1) x = rw c.deref.ensures.value c.index.ensures in
    let at : x.end ≡ end_at xs (count - 1) = ap (λ (v : Pair). v.end) read ∙ end_is_at xs (count - 1) x inside in
    let is : c.end-then-count-gt0.result ≡ end_at xs (count - 1) = c.end-then-count-gt0.ensures.end ∙ at in
    let lies = lies-last xs (rise here) b c.args.x.end count c.partition_point-count.ensures.bound (place here) in
    let last = last-lies xs (rise here) b c.args.x.end count c.partition_point-count.ensures.bound (place here) in
    rw (is, c.end.ensures.end, ← c.self.view_is) (
      λ yes. let ends : c.args.x.end ≤ end_at xs (count - 1) = grind (arith, nat_tests) in rw c.deref.ensures.value at (lies c.if-count-gt0.true ends),
      λ within. let ends = (last (subst (λ (l : List Pair). LiesInSome l b c.args.x.end) (sym c.deref.ensures.value) within)).1 in grind (arith, nat_tests),
    )

pub returns-else-count-gt0 : goal.returns-else-count-gt0
returns-else-count-gt0 c =
    let here = (goal.at.returns-else-count-gt0 c).After-partition_point-count in
    let last = last-lies c.deref.result.now (rise here) c.args.x.begin c.args.x.end c.partition_point-count.result c.partition_point-count.ensures.bound (place here) in
    rw (← c.self.view_is) (
      λ yes. absurd (grind (arith, nat_tests)),
      λ within. absurd (omega (arith, c.if-count-gt0.false, (last (subst (λ (l : List Pair). LiesInSome l c.args.x.begin c.args.x.end) (sym c.deref.ensures.value) within)).0)),
    )

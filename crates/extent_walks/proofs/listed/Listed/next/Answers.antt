use Rattle.std.proofs.Common.{rules, ◌≢◌, ◌<◌, ◌∙◌, length, sym, arith}
use Rattle.std.proofs.lemmas.List.Sorted.{IsPartitionPoint-from_clause}
use Rattle.extent_lists.specs.Rows.{IsAscending}
use Rattle.extent_walks.proofs.PlaceLemmas.{IsNext-listed, IsNext-none_listed, IsPartitionedBy-short, is_short}
use Rattle.extent_walks.proofs.listed.Listed.next.Goals as goal

pub returns-then-count-len : goal.returns-then-count-len
returns-then-count-len c =
    let xs = c.deref.result.now in
    let begin = c.args.from.begin in
    let end = c.args.from.end in
    let count = c.partition_point-count.result in
    let up : IsAscending xs = rw c.deref.ensures.value c.self.invariant in
    let point = IsPartitionPoint-from_clause (is_short begin end) xs count c.partition_point-count.ensures.partitioned (IsPartitionedBy-short xs begin end up) (λ a r f t. search rules) in
    let next = IsNext-none_listed xs up begin end count c.partition_point-count.ensures.bound point (omega (arith, c.if-count-len.true, c.len.ensures, c.deref.ensures.len)) in
    rw (← c.self.view_is) (rw c.deref.ensures.value at next)

pub returns : goal.returns
returns c =
    let xs = c.deref.result.now in
    let begin = c.args.from.begin in
    let end = c.args.from.end in
    let count = c.partition_point-count.result in
    let up : IsAscending xs = rw c.deref.ensures.value c.self.invariant in
    let point = IsPartitionPoint-from_clause (is_short begin end) xs count c.partition_point-count.ensures.partitioned (IsPartitionedBy-short xs begin end up) (λ a r f t. search rules) in
    let x = c.index-x.result.now in
    let others : count ≢ length xs = λ e. c.if-count-len.false (e ∙ c.deref.ensures.len ∙ sym c.len.ensures) in
    let inside : count < length xs = omega (arith, others, c.partition_point-count.ensures.bound) in
    let next = IsNext-listed xs up begin end count c.partition_point-count.ensures.bound point x inside (rw c.deref.ensures.value c.index-x.ensures) (omega (arith, c.begin-begin.ensures.begin, c.begin-begin.ensures.some)) in
    rw (← c.self.view_is) (rw c.deref.ensures.value at next)

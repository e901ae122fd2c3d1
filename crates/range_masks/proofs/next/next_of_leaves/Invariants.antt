use Rattle.std.proofs.Common.{◌≤◌, take, IfSome}
use Rattle.std.specs.List.{list_any}
use Rattle.query_check.specs.Leaves.{leaf_tree}
use Rattle.range_masks.specs.May.{leaf_may}
use Rattle.range_masks.specs.Next.{IsPassed}
use Rattle.range_masks.proofs.next.next_of_leaves.Given as goal

abbrev pub invariant-loop-leaf : goal.invariant-loop-leaf
invariant-loop-leaf g l = record {
  forward : IfSome l.next (λ n. l.from ≤ n);
  passed : g.P.Postings.sound l.part → IsPassed (λ d. list_any (λ x. leaf_may (leaf_tree x) d) (take l.leaf-index l.leaves)) (g.P.Postings.documents l.part) l.from l.next;
}

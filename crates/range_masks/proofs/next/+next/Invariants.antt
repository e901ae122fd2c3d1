use Rattle.std.proofs.Common.{◌≤◌, take, Some, IfSome}
use Rattle.std.specs.List.{list_all, list_any}
use Rattle.ri_base.specs.Expression.{expr_tree}
use Rattle.range_masks.specs.May.{may}
use Rattle.range_masks.specs.Next.{IsPassed}
use Rattle.range_masks.proofs.next.+next.Given as goal

abbrev pub invariant-next_of_each-loop-x : goal.invariant-next_of_each-loop-x
invariant-next_of_each-loop-x g l = record {
  forward : l.from ≤ l.next;
  passed : g.P.Postings.sound l.part → IsPassed (λ d. list_all (λ x. may (expr_tree x) d) (take l.x-index l.all)) (g.P.Postings.documents l.part) l.from (Some l.next);
}

abbrev pub invariant-next_of_some-loop-x : goal.invariant-next_of_some-loop-x
invariant-next_of_some-loop-x g l = record {
  forward : IfSome l.next (λ n. l.from ≤ n);
  passed : g.P.Postings.sound l.part → IsPassed (λ d. list_any (λ x. may (expr_tree x) d) (take l.x-index l.all)) (g.P.Postings.documents l.part) l.from l.next;
}

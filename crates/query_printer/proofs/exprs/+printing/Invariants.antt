use Rattle.std.proofs.Common.{◌≡◌, ◌++◌, drop, map}
use Rattle.ri_base.specs.Expression.{expr_tree, expr_trees}
use Rattle.query_printer.specs.Printed.{printed_more}
use Rattle.query_printer.proofs.exprs.+printing.Given as goal

abbrev pub invariant-push_all-loop-x : goal.invariant-push_all-loop-x
invariant-push_all-loop-x l = l.out.items ++ printed_more (expr_trees (map expr_tree (drop l.x-index l.rest))) ≡ l.initial.out.items ++ printed_more (expr_trees (map expr_tree l.rest))

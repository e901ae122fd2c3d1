use Rattle.std.proofs.Common.{◌≡◌, map, drop}
use Rattle.ri_base.specs.Expression.{expr_tree}
use Rattle.same_expressions.proofs.same.+comparing.Given as goal

abbrev pub invariant-same_exprs-loop-i : goal.invariant-same_exprs-loop-i
invariant-same_exprs-loop-i l = map expr_tree (drop l.i l.all) ≡ map expr_tree (drop l.i l.others) → map expr_tree l.all ≡ map expr_tree l.others

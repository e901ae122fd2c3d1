use Rattle.std.proofs.Common.{◌≡◌, take, map}
use Rattle.ri_base.specs.Expression.{expr_tree}
use Rattle.ri_base.proofs.expression.+cloning.Given as goal

abbrev pub invariant-clone_all-loop-x : goal.invariant-clone_all-loop-x
invariant-clone_all-loop-x l = map expr_tree l.clones.items ≡ map expr_tree (take l.x-index l.all)

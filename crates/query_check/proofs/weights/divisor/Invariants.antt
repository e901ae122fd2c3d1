use Rattle.std.proofs.Common.{◌≡◌, map, drop}
use Rattle.ri_base.specs.Query.{weighted_tree, weighted_trees}
use Rattle.query_check.specs.Check.{weights, weighted_pruned}
use Rattle.query_check.specs.Multiples.{gcd, common_divisor}
use Rattle.query_check.proofs.weights.divisor.Given as goal

abbrev pub invariant-loop-weight : goal.invariant-loop-weight
invariant-loop-weight l = gcd l.divisor (common_divisor (weights (weighted_pruned (weighted_trees (map weighted_tree (drop l.weight-index l.all)))))) ≡ common_divisor (weights (weighted_pruned (weighted_trees (map weighted_tree l.all))))

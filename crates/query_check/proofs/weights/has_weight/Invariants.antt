use Rattle.std.proofs.Common.{◌≡◌, map, drop}
use Rattle.std.specs.List.{list_any}
use Rattle.ri_base.specs.Query.{weighted_tree, weighted_trees}
use Rattle.query_check.specs.Check.{weights, is_some_weight}
use Rattle.query_check.proofs.weights.has_weight.Given as goal

abbrev pub invariant-loop-weight : goal.invariant-loop-weight
invariant-loop-weight l = list_any is_some_weight (weights (weighted_trees (map weighted_tree (drop l.weight-index l.all)))) ≡ list_any is_some_weight (weights (weighted_trees (map weighted_tree l.all)))

use Rattle.std.proofs.Common.{◌≡◌, ◌+◌, map, drop}
use Rattle.query_check.specs.Scale.{total}
use Rattle.query_check.specs.Trees.{weighted_scaled_tree, weighted_scaled_trees}
use Rattle.belief_nodes.proofs.keys.total_weight.Given as goal

abbrev pub invariant-loop-weight : goal.invariant-loop-weight
invariant-loop-weight l = l.total + total (weighted_scaled_trees (map weighted_scaled_tree (drop l.weight-index l.trees))) ≡ total (weighted_scaled_trees (map weighted_scaled_tree l.trees))

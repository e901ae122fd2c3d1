use Rattle.std.proofs.Common.{◌≡◌, ◌+◌, map, drop}
use Rattle.ri_base.specs.Query.{belief_tree, belief_trees, weighted_tree, weighted_trees}
use Rattle.query_check.specs.Check.{all_pruned, weighted_pruned, all_leaf_count, weighted_leaf_count, trees_from, weighted_trees_from}
use Rattle.query_check.specs.Trees.{scaled_tree, weighted_scaled_tree}
use Rattle.query_check.proofs.Numbering.{joined, weighted_joined}
use Rattle.query_check.proofs.scaling.+scaling.Given as goal

abbrev pub invariant-scale_all-loop-x : goal.invariant-scale_all-loop-x
invariant-scale_all-loop-x l =
    (joined (map scaled_tree l.trees.items) (trees_from l.next (all_pruned (belief_trees (map belief_tree (drop l.x-index l.all))))) ≡ trees_from l.fn.next (all_pruned (belief_trees (map belief_tree l.all))))
    × (l.next + all_leaf_count (all_pruned (belief_trees (map belief_tree (drop l.x-index l.all)))) ≡ l.fn.next + all_leaf_count (all_pruned (belief_trees (map belief_tree l.all))))

abbrev pub invariant-scale_weighted-loop-weight : goal.invariant-scale_weighted-loop-weight
invariant-scale_weighted-loop-weight l =
    (weighted_joined (map weighted_scaled_tree l.trees.items) (weighted_trees_from l.divisor l.next (weighted_pruned (weighted_trees (map weighted_tree (drop l.weight-index l.all))))) ≡ weighted_trees_from l.divisor l.fn.next (weighted_pruned (weighted_trees (map weighted_tree l.all))))
    × (l.next + weighted_leaf_count (weighted_pruned (weighted_trees (map weighted_tree (drop l.weight-index l.all)))) ≡ l.fn.next + weighted_leaf_count (weighted_pruned (weighted_trees (map weighted_tree l.all))))

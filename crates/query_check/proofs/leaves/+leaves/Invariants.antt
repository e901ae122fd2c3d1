use Rattle.std.proofs.Common.{◌≡◌, map, drop}
use Rattle.ri_base.specs.Query.{belief_tree, belief_trees, weighted_tree, weighted_trees}
use Rattle.query_check.specs.Check.{all_pruned, weighted_pruned, have_leaf, have_leaf_weighted}
use Rattle.query_check.proofs.leaves.+leaves.Given as goal

abbrev pub invariant-have_leaf-loop-x : goal.invariant-have_leaf-loop-x
invariant-have_leaf-loop-x l = have_leaf (all_pruned (belief_trees (map belief_tree (drop l.x-index l.all)))) ≡ have_leaf (all_pruned (belief_trees (map belief_tree l.all)))

abbrev pub invariant-have_leaf_weighted-loop-weight : goal.invariant-have_leaf_weighted-loop-weight
invariant-have_leaf_weighted-loop-weight l = have_leaf_weighted (weighted_pruned (weighted_trees (map weighted_tree (drop l.weight-index l.all)))) ≡ have_leaf_weighted (weighted_pruned (weighted_trees (map weighted_tree l.all)))

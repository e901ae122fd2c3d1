use Rattle.std.proofs.Common.{◌≡◌, ◌++◌, map}
use Rattle.ri_base.specs.Query.{belief_tree, belief_trees, weighted_tree, weighted_trees}
use Rattle.query_check.specs.Check.{all_pruned, weighted_pruned, all_leaves, weighted_leaves}
use Rattle.query_check.specs.Leaves.{leaf_tree}
use Rattle.query_check.proofs.leaves.+taking.Given as goal

abbrev pub invariant-take_all_leaves-loop-x : goal.invariant-take_all_leaves-loop-x
invariant-take_all_leaves-loop-x l = map leaf_tree l.leaves.items ≡ map leaf_tree l.fn.leaves.items ++ all_leaves l.names (all_pruned (belief_trees (map belief_tree l.yielded)))

abbrev pub invariant-take_weighted_leaves-loop-weight : goal.invariant-take_weighted_leaves-loop-weight
invariant-take_weighted_leaves-loop-weight l = map leaf_tree l.leaves.items ≡ map leaf_tree l.fn.leaves.items ++ weighted_leaves l.names (weighted_pruned (weighted_trees (map weighted_tree l.yielded)))

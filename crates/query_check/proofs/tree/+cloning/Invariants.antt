use Rattle.std.proofs.Common.{◌≡◌, take, map}
use Rattle.query_check.specs.Trees.{scaled_tree, weighted_scaled_tree}
use Rattle.query_check.proofs.tree.+cloning.Given as goal

abbrev pub invariant-clone_all-loop-tree : goal.invariant-clone_all-loop-tree
invariant-clone_all-loop-tree l = map scaled_tree l.clones.items ≡ map scaled_tree (take l.tree-index l.trees)

abbrev pub invariant-clone_weighted-loop-weight : goal.invariant-clone_weighted-loop-weight
invariant-clone_weighted-loop-weight l = map weighted_scaled_tree l.clones.items ≡ map weighted_scaled_tree (take l.weight-index l.trees)

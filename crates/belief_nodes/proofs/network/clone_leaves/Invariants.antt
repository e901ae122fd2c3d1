use Rattle.std.proofs.Common.{◌≡◌, take, map}
use Rattle.query_check.specs.Leaves.{leaf_tree}
use Rattle.belief_nodes.proofs.network.clone_leaves.Given as goal

abbrev pub invariant-loop-leaf : goal.invariant-loop-leaf
invariant-loop-leaf l = map leaf_tree l.clones.items ≡ map leaf_tree (take l.leaf-index l.all)

use Rattle.std.proofs.Common.{◌≡◌, ◌<◌, ◌^◌, map, drop, true}
use Rattle.query_check.specs.Multiples.{lcm}
use Rattle.query_check.specs.Scale.{weighted_common, are_weighted_scaled}
use Rattle.query_check.specs.Trees.{weighted_scaled_tree, weighted_scaled_trees}
use Rattle.query_check.proofs.tree.weighted_common_multiple.Given as goal

abbrev pub invariant-loop-tree : goal.invariant-loop-tree
invariant-loop-tree l =
    (lcm l.multiple (weighted_common (weighted_scaled_trees (map weighted_scaled_tree (drop l.tree-index l.trees)))) ≡ weighted_common (weighted_scaled_trees (map weighted_scaled_tree l.trees)))
    × (are_weighted_scaled (weighted_scaled_trees (map weighted_scaled_tree (drop l.tree-index l.trees))) ≡ true)
    × (l.multiple < 2 ^ 60)

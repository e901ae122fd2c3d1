use Rattle.std.proofs.Common.{◌≡◌, ◌<◌, ◌^◌, map, drop, true}
use Rattle.query_check.specs.Multiples.{lcm}
use Rattle.query_check.specs.Scale.{common, are_scaled}
use Rattle.query_check.specs.Trees.{scaled_tree, scaled_trees}
use Rattle.query_check.proofs.tree.common_multiple.Given as goal

abbrev pub invariant-loop-tree : goal.invariant-loop-tree
invariant-loop-tree l =
    (lcm l.multiple (common (scaled_trees (map scaled_tree (drop l.tree-index l.trees)))) ≡ common (scaled_trees (map scaled_tree l.trees)))
    × (are_scaled (scaled_trees (map scaled_tree (drop l.tree-index l.trees))) ≡ true)
    × (l.multiple < 2 ^ 60)

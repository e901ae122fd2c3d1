use Rattle.std.proofs.Common.{◌≡◌, ◌+◌, length, map, min}
use Rattle.std.specs.Prelude.{fold, sum}
use Rattle.query_check.specs.Trees.{scaled_tree, scaled_trees, weighted_scaled_tree, weighted_scaled_trees}
use Rattle.belief_nodes.specs.Fits.{AreFit, AreWeightedFit}
use Rattle.belief_nodes.specs.Keys.{shares, weighted_shares, least_of}
use Rattle.belief_nodes.proofs.Walks.{trees_from, weighted_from}
use Rattle.belief_nodes.proofs.keys.+keys.Given as goal

abbrev pub invariant-sum_of-loop-tree : goal.invariant-sum_of-loop-tree
invariant-sum_of-loop-tree l =
    AreFit (length l.digits) l.common (trees_from l.trees l.tree-index)
    × (fold (λ a b. a + b) l.sum (shares l.digits l.common (trees_from l.trees l.tree-index)) ≡ sum (shares l.digits l.common (scaled_trees (map scaled_tree l.trees))))

abbrev pub invariant-weighted_sum_of-loop-weight : goal.invariant-weighted_sum_of-loop-weight
invariant-weighted_sum_of-loop-weight l =
    AreWeightedFit (length l.digits) l.common (weighted_from l.trees l.weight-index)
    × (fold (λ a b. a + b) l.sum (weighted_shares l.digits l.common (weighted_from l.trees l.weight-index)) ≡ sum (weighted_shares l.digits l.common (weighted_scaled_trees (map weighted_scaled_tree l.trees))))

abbrev pub invariant-least_of-loop-tree : goal.invariant-least_of-loop-tree
invariant-least_of-loop-tree l =
    AreFit (length l.digits) l.common (trees_from l.rest l.tree-index)
    × (fold (λ a b. min a b) l.least (shares l.digits l.common (trees_from l.rest l.tree-index)) ≡ least_of (shares l.digits l.common (scaled_trees (map scaled_tree l.trees))))

use Rattle.std.proofs.Common.{◌≡◌, map, drop}
use Rattle.ri_base.specs.Query.{belief_tree, belief_trees, weighted_tree, weighted_trees}
use Rattle.query_check.specs.Check.{have_weights, have_weights_weighted}
use Rattle.query_check.proofs.weights.+weights.Given as goal

abbrev pub invariant-have_weights-loop-x : goal.invariant-have_weights-loop-x
invariant-have_weights-loop-x l = have_weights (belief_trees (map belief_tree (drop l.x-index l.all))) ≡ have_weights (belief_trees (map belief_tree l.all))

abbrev pub invariant-have_weights_weighted-loop-x : goal.invariant-have_weights_weighted-loop-x
invariant-have_weights_weighted-loop-x l = have_weights_weighted (weighted_trees (map weighted_tree (drop l.x-index l.all))) ≡ have_weights_weighted (weighted_trees (map weighted_tree l.all))

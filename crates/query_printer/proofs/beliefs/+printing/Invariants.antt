use Rattle.std.proofs.Common.{◌≡◌, ◌++◌, drop, map}
use Rattle.ri_base.specs.Query.{belief_tree, belief_trees, weighted_tree, weighted_trees}
use Rattle.query_printer.specs.Printed.{more_beliefs_text, more_weighted_text}
use Rattle.query_printer.proofs.beliefs.+printing.Given as goal

abbrev pub invariant-push_beliefs-loop-x : goal.invariant-push_beliefs-loop-x
invariant-push_beliefs-loop-x l = l.out.items ++ more_beliefs_text (belief_trees (map belief_tree (drop l.x-index l.rest))) ≡ l.initial.out.items ++ more_beliefs_text (belief_trees (map belief_tree l.rest))

abbrev pub invariant-push_weighted-loop-weight : goal.invariant-push_weighted-loop-weight
invariant-push_weighted-loop-weight l = l.out.items ++ more_weighted_text (weighted_trees (map weighted_tree (drop l.weight-index l.rest))) ≡ l.initial.out.items ++ more_weighted_text (weighted_trees (map weighted_tree l.rest))

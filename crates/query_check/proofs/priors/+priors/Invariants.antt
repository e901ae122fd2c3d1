use Rattle.std.proofs.Common.{◌≡◌, map, drop}
use Rattle.std.specs.Prelude.{find}
use Rattle.ri_base.specs.Query.{belief_tree, belief_trees, weighted_tree, weighted_trees}
use Rattle.query_check.specs.Check.{is_unknown, all_priors, weighted_priors}
use Rattle.query_check.proofs.priors.+priors.Given as goal

abbrev pub invariant-first_unknown-loop-x : goal.invariant-first_unknown-loop-x
invariant-first_unknown-loop-x l = find (is_unknown l.names) (all_priors (belief_trees (map belief_tree (drop l.x-index l.all)))) ≡ find (is_unknown l.names) (all_priors (belief_trees (map belief_tree l.all)))

abbrev pub invariant-unknown_in_weighted-loop-x : goal.invariant-unknown_in_weighted-loop-x
invariant-unknown_in_weighted-loop-x l = find (is_unknown l.names) (weighted_priors (weighted_trees (map weighted_tree (drop l.x-index l.all)))) ≡ find (is_unknown l.names) (weighted_priors (weighted_trees (map weighted_tree l.all)))

use Rattle.std.proofs.Common.{◌≡◌, take, map}
use Rattle.ri_base.specs.Query.{belief_tree, weighted_tree}
use Rattle.ri_base.proofs.belief.+cloning.Given as goal

abbrev pub invariant-clone_all-loop-x : goal.invariant-clone_all-loop-x
invariant-clone_all-loop-x l = map belief_tree l.clones.items ≡ map belief_tree (take l.x-index l.all)

abbrev pub invariant-clone_weighted-loop-weight : goal.invariant-clone_weighted-loop-weight
invariant-clone_weighted-loop-weight l = map weighted_tree l.clones.items ≡ map weighted_tree (take l.weight-index l.all)

use Rattle.std.proofs.Common.{◌≡◌, take, map}
use Rattle.ri_base.specs.Query.{belief_tree}
use Rattle.ri_base.proofs.query.clone_beliefs.Given as goal

abbrev pub invariant-loop-belief : goal.invariant-loop-belief
invariant-loop-belief l = map belief_tree l.clones.items ≡ map belief_tree (take l.belief-index l.all)

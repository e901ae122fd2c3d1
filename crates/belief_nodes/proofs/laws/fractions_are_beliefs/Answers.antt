use Rattle.belief_nodes.proofs.LeafBeliefs.{leaf_beliefs}
use Rattle.belief_nodes.proofs.laws.fractions_are_beliefs.Goals as goal

pub returns : goal.returns
returns c = λ mu priors docno tokens leaves counts stats is told h h'. leaf_beliefs mu is priors docno tokens told leaves counts stats h h'

use Rattle.smoothing.proofs.Dirichlets.{dirichlet_belief, dirichlet_small}
use Rattle.smoothing.proofs.laws.dirichlet_sizes.Goals as goal

pub returns-clause-belief : goal.returns-clause-belief
returns-clause-belief c = dirichlet_belief

pub returns-clause-small : goal.returns-clause-small
returns-clause-small c = dirichlet_small

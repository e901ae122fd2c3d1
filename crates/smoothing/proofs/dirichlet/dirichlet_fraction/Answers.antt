use Rattle.std.proofs.Common.{arith}
use Rattle.smoothing.proofs.Dirichlets.{positive, at_most_one}
use Rattle.smoothing.proofs.dirichlet.dirichlet_fraction.Goals as goal

pub invariant_of-result-clause-positive : goal.invariant_of-result-clause-positive
invariant_of-result-clause-positive c = positive _ _ _ _ (omega arith) (omega arith)

pub invariant_of-result-clause-at_most_one : goal.invariant_of-result-clause-at_most_one
invariant_of-result-clause-at_most_one c = at_most_one _ _ _ _ _ (omega arith) (omega arith)
